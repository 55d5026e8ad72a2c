pub mod ByteOrder
pub mod Elements
pub mod Ones
pub mod Zeros

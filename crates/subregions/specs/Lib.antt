pub mod Operators
pub mod Pieces
pub mod Needed
pub mod Fill

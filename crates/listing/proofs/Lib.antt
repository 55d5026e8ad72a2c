pub mod Decimal
pub mod Lines
pub mod PastEnd
pub mod Written
pub mod Lengths

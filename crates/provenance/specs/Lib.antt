pub mod Sources
pub mod Piece
pub mod Members
pub mod Chain
pub mod Question

pub mod Stages
pub mod Spans
pub mod OnePiece

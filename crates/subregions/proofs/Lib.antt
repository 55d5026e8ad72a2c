pub mod Piece
pub mod Maps
pub mod NodePieces
pub mod NodeOperators
pub mod NodeFill
pub mod AllNodes
pub mod NeededNodes
pub mod Sizes

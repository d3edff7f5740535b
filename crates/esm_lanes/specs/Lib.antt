pub mod Piece
pub mod Open
pub mod Run
pub mod Queue

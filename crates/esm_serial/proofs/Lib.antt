pub mod Bringing
pub mod Handing
pub mod Pieces
pub mod Leading
pub mod Leaving

pub mod Limiting
pub mod Counts
pub mod Beginning
pub mod Pieces
pub mod Within

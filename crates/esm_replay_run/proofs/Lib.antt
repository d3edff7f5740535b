pub mod Sayings
pub mod Headlines
pub mod FirstChange
pub mod Ways
pub mod Counting
pub mod Openings
pub mod Begun

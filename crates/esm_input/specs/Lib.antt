pub mod Limits
pub mod Positions
pub mod Reading
pub mod Counting
pub mod Begun
pub mod Going
pub mod Within

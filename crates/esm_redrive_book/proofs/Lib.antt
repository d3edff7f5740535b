pub mod Entries
pub mod Bringing
pub mod Going
pub mod Ending
pub mod Leaving
pub mod Standing
pub mod Timed

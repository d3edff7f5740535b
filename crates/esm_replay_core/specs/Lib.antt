pub mod View
pub mod Deciding
pub mod Told
pub mod Counts
pub mod Owing
pub mod Ending
pub mod Choosing
pub mod Kept

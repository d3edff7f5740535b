pub mod Headline
pub mod Ended
pub mod Ending
pub mod Runs
pub mod Counts
pub mod Laws

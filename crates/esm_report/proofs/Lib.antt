pub mod Counting
pub mod Telling
pub mod Deleted
pub mod QueueTelling

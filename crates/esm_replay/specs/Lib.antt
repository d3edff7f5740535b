pub mod Ranges
pub mod Records
pub mod Rows
pub mod Waiting
pub mod Batch
pub mod Ending
pub mod Saying
pub mod Coming

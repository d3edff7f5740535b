pub mod Dues
pub mod Ending
pub mod Preparing
pub mod Parts

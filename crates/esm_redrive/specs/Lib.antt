pub mod ReadsBack
pub mod Limited
pub mod Spent
pub mod DeadFile

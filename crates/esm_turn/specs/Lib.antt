pub mod Parts
pub mod Rule
pub mod Seats
pub mod TestLogs

pub mod Ran
pub mod Readings

pub mod Adding
pub mod Ran
pub mod Readings
pub mod Steps

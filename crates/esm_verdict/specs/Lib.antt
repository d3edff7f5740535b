pub mod Readings
pub mod Indexed
pub mod Reported
pub mod Flags

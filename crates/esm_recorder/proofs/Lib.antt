pub mod Logs
pub mod Taking

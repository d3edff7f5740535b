pub mod Errors
pub mod Forms
pub mod Limits
pub mod Streams

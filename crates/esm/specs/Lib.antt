pub mod Callers
pub mod Opening
pub mod Timeouts
pub mod Done

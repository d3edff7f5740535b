pub mod OpenedDisks
pub mod Ends
pub mod Rewrites
pub mod Versions
pub mod Safe

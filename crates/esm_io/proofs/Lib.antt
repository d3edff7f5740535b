pub mod Fronts
pub mod Elapsed
pub mod DiskCalls
pub mod Crashed
pub mod Within
pub mod Leaving

pub mod Batchers
pub mod Lanes
pub mod Mappings
pub mod Quiet
pub mod Resting

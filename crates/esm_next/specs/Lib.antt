pub mod Following
pub mod Deciding
pub mod Gathering
pub mod Cuts
pub mod Steps

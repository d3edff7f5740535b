pub mod Init
pub mod Making
pub mod Sizes
pub mod Text
pub mod Opened
pub mod Shown
pub mod UpkeepText
pub mod Upkeep

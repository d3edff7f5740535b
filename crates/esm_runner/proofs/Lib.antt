pub mod Goods
pub mod FailureImages
pub mod Headlines
pub mod Openings
pub mod Payloads
pub mod Records
pub mod Stopped
pub mod Unbegun
pub mod Ways
pub mod Begins
mod Setups
mod Bridges
mod Following
mod Lanes
mod Items
mod Configs
pub mod KeptNumbers
mod FirstChange
mod OverFiles
mod Shared
pub mod Numbers
pub mod QueueSetups
pub mod QueueBridges
pub mod QueueItems
pub mod KeptIds
pub mod QueueFirstChange
pub mod Later
pub mod QueueShared
pub mod QueueBegins
pub mod Deletions
pub mod Earned
pub mod QueueSettled
pub mod QueueHeadlines
pub mod Messages
pub mod Recorded
pub mod Saying
pub mod QueueUnbegun
pub mod QueueWays

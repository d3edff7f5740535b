pub mod Entries
pub mod Tellings
pub mod Records
pub mod Hands
pub mod Bringing
pub mod Deciding
pub mod Going
pub mod Endings
pub mod Noting
pub mod Standing
pub mod Founds
mod PoolingChanges
mod PoolingEntries
mod PoolingFinished
mod PoolingCame
mod PoolingRead
mod PoolingLanes
mod PoolingSteps
mod PoolingAsked
mod PoolingEnded
mod PoolingTimed
pub mod Sent
pub mod OneMore
pub mod Lanes
mod Quiet
mod Onward
pub mod Readers
pub mod Timed

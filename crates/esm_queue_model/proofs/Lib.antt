pub mod Groups
pub mod EligibleFacts
pub mod Places
pub mod QueueTests
pub mod WorkedHistories
pub mod QueueHistories
pub mod MoreMessages
pub mod QueueBookLaws

pub mod Decided
pub mod Meanings
pub mod Growth
pub mod State
pub mod Answers
pub mod Writing
pub mod Hand

pub mod CalendarLemmas
pub mod Appending
pub mod LengthLemmas
pub mod PlainMapping
pub mod QueueLengths
pub mod QueueExample
pub mod EventBytes
pub mod Elements
pub mod WrittenDigits
mod FailureLines

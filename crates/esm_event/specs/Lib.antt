pub mod Elements
pub mod QueueExample

pub mod Rising
pub mod Saying
pub mod Recorded
pub mod Lives

pub mod Coming
pub mod Parts
pub mod Changes
pub mod Entries
pub mod Sound
pub mod Judged
pub mod Inside

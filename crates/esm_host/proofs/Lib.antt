mod Kept
mod Repeats

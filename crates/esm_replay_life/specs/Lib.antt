pub mod ReplayLife

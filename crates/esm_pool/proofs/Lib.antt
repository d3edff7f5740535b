pub mod Seats
pub mod Arriving
pub mod Reading
pub mod Stopping
pub mod Leaving
pub mod Sent

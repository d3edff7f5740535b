pub mod Turns
pub mod Twice
pub mod Later
pub mod Sent
mod Going
mod Packed
mod Closed
mod Read
mod Whole

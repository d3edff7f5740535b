pub mod Starts
pub mod Expected
pub mod Refused
pub mod Named
pub mod Refusals

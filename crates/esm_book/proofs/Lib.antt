pub mod Lists
pub mod Fronts
pub mod Appending
pub mod Delivering
pub mod Growing
pub mod Writings
pub mod Keeping
pub mod Leaving

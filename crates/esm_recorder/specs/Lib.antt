pub mod Recorder
pub mod Laws
pub mod Lists

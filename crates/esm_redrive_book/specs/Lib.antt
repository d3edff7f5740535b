pub mod Books
pub mod Calls
pub mod Keeping
pub mod Letters
pub mod Opening
pub mod Carried
pub mod Moments

pub mod Content
pub mod Life

pub mod Completeness
pub mod Content

pub mod Clap
pub mod Spelling
pub mod Tables
pub mod Words

pub mod Generated
pub mod Reads
pub mod Function
pub mod Nothing
pub mod Prepared
pub mod Report
pub mod Run

pub mod Request
pub mod Response
pub mod ResponseRead
pub mod Exchange
pub mod Callers
pub mod Receiving

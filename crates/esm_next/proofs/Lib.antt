mod Over
mod Told
mod Rules
mod Fronts
mod Cuts
mod Bounds
mod Lanes
mod Serving
mod Expiries
mod Batches
mod Lines
mod Groups
mod Results
mod Served
pub mod Prefixes

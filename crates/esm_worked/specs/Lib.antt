pub mod Decided
pub mod WorkedHistories
pub mod WorkedNext
pub mod WorkedArrivals

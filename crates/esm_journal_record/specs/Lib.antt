pub mod Payload
pub mod Fronts
pub mod Parsing
pub mod Words
pub mod Gathered
pub mod EntryPayload
pub mod WorkedPayloads

pub mod ReplaySetting
pub mod FailureRange
pub mod Pieces
pub mod ReplayRun
pub mod ReplayReport
pub mod ReplayTests
pub mod WorkedReplays
pub mod ReplayLaws

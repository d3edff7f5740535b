pub mod View
pub mod Found
pub mod Own
pub mod Judged
pub mod ReadOutcome
pub mod Criteria
pub mod Named

pub mod IndexLemmas
pub mod ReportedLemmas
pub mod ReadingLemmas
pub mod WithinLemmas

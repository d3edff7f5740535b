pub mod Report
pub mod Totals
pub mod Queue
pub mod Counts
pub mod Worked

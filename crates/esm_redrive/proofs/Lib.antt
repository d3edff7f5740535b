pub mod Escapes
pub mod Letters
pub mod ReadingBack
pub mod Limits
pub mod DeadLines
pub mod PayloadIds
pub mod OneLine
pub mod GoingOn

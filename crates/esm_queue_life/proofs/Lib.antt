pub mod Histories
pub mod Earning
pub mod Naming
pub mod Lives
pub mod UnderRedrives
pub mod RedriveEarning
pub mod DeadLetters

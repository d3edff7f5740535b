pub mod History
pub mod Life
pub mod UnderRedrives

pub mod RedriveSetting
pub mod DeadLetter
pub mod Due
pub mod RedriveStep
pub mod RedriveReport
pub mod RedriveLaws
pub mod RedriveLines
pub mod WorkedRedrives

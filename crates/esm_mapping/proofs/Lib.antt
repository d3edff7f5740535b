pub mod Running
pub mod Texts
pub mod Ids
pub mod OneText
pub mod OneId
pub mod OneAnswer

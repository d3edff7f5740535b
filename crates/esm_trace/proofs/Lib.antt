pub mod Cutting
pub mod Texts
pub mod Escapes
pub mod MemberTexts
pub mod Lines
pub mod Histories
pub mod Order
pub mod CallsTell

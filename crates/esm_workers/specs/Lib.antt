pub mod Seated
pub mod Working
pub mod Rounds
pub mod Hands
pub mod Packs
pub mod Shared

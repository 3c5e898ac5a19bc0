pub mod Running
pub mod Fates
pub mod Posing

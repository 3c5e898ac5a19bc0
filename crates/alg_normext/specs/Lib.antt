pub mod Functions
pub mod Wholes

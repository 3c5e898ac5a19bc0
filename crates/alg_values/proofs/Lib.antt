pub mod Ranging
pub mod Inverses

pub mod Code
pub mod Keys
pub mod Order
pub mod Symbols
pub mod Tree

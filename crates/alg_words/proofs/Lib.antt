pub mod Counting
pub mod Matching
pub mod Refusing

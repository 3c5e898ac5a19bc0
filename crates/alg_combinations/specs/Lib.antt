pub mod Combined
pub mod Combining

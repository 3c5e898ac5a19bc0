pub mod Writing
pub mod Sums
pub mod Merging

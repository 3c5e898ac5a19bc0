pub mod RowNames
pub mod Growing
pub mod Summing

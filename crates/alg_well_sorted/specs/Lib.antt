pub mod Agreeing
pub mod OfSort

pub mod WholeTree
pub mod Numerals
pub mod Comparing

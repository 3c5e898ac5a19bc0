pub mod Setting
pub mod Ranges
pub mod Arithmetic
pub mod Functions
pub mod Values
pub mod Numerals
pub mod Normal
pub mod Comparing

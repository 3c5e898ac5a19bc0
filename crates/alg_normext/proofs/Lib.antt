pub mod Numerals
pub mod Functions
pub mod Worths
pub mod CallTrees
pub mod Calls
pub mod Wholes

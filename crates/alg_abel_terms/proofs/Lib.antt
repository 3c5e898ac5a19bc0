pub mod Terms
pub mod NormalTrees
pub mod SameCombinations
pub mod Weights
pub mod WellSortedForms
pub mod Combining
mod Rows

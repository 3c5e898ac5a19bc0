pub mod Combination
pub mod NormalTree
pub mod Weight
pub mod Limits
pub mod Numbers
pub mod Laws

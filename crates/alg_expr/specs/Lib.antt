pub mod Ids
pub mod Distinct
pub mod Sizes
pub mod Arena
pub mod Nodes
pub mod Steps
pub mod Copies
pub mod Applying

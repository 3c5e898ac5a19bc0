pub mod GoalParts
pub mod Instances
pub mod Kept
pub mod Signatures
pub mod Steps
pub mod TakenLaws

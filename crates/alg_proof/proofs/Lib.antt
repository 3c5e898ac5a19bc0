mod TableLemmas
mod PlaceLemmas
pub mod Forward
pub mod LiteralSums
pub mod PatternSorts
pub mod PatternLaws
pub mod LawSorts
pub mod Extending
pub mod Derived
pub mod LiteralOrder
pub mod InstanceLaws
pub mod ComputationLaws
pub mod Admissible

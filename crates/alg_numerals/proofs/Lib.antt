pub mod LiteralLemmas
pub mod WholeLemmas
pub mod SignTrees
pub mod RelationLemmas
pub mod ComparisonLemmas

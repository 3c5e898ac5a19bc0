pub mod RowNames
pub mod QuotientLemmas
pub mod WholeLemmas
pub mod ComparisonLemmas

pub mod Ordered
pub mod Leads
pub mod MergingTerms

pub mod SizeLemmas
pub mod FractionLemmas

pub mod ShapeLemmas
pub mod AtomLemmas
pub mod ReachLemmas
pub mod FoundLemmas

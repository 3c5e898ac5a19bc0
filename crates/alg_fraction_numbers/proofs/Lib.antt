pub mod CommonLemmas
pub mod ResultLemmas

pub mod NormalLemmas
pub mod RaiseLemmas

pub mod PowerNumbers
pub mod PowerLemmas

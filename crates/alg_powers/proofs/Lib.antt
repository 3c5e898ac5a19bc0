pub mod PowerLemmas

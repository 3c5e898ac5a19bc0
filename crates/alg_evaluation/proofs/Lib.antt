pub mod Parting
pub mod Finding
pub mod Walking
pub mod Asking
pub mod FoundFacts

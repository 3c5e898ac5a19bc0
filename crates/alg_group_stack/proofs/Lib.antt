pub mod BitLemmas
pub mod Homes
pub mod WordLemmas
pub mod JoinLemmas
pub mod StepLemmas

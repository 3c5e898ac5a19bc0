pub mod CallLaws
pub mod CombinationsGood
pub mod Keeping
pub mod Lookups
pub mod NoProofs
pub mod ProgressLaws
pub mod ScriptsFit
pub mod TellingLaws

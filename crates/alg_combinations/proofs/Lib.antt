pub mod CombinedLaws

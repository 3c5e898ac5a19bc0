pub mod IntegerLaws
pub mod PowerLaws
pub mod CoprimeLaws
pub mod LowestTermsLaws
pub mod ReducedLaws
pub mod FractionLaws
pub mod Powers
mod Reductions
mod LeastSums
pub mod WholeNumbers

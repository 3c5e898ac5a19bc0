pub mod Having
pub mod InversePowers
pub mod Lists
pub mod Trees
pub mod WholeNumbers
pub mod Evaluations

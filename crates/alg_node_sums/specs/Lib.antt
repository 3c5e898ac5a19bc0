pub mod Polynomials
pub mod Deriving
pub mod Combining

pub mod Monomials
pub mod Terms

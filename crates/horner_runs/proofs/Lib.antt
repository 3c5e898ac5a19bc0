pub mod Atoms
pub mod Fractions

pub mod Exponents
pub mod Atoms
pub mod Found
pub mod Shapes

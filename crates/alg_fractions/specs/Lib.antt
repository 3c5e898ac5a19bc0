pub mod NumeralTree
pub mod Fractions

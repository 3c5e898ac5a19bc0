pub mod Places
pub mod Fractions
pub mod Valuing
pub mod LeastSums
pub mod Ranges

pub mod Scanning
pub mod Literals
pub mod LongestFronts
pub mod LongestTokens
pub mod Pieces
pub mod Steps
pub mod Readings
pub mod SlicesLemmas

pub mod Capped
pub mod Fractions
pub mod Sizes
pub mod Numbers
pub mod Found
pub mod Marks
pub mod Atoms
pub mod Work

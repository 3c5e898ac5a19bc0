pub mod Word
pub mod Letters
pub mod Syllables
pub mod WordTree
pub mod Limits
pub mod Laws

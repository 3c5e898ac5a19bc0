pub mod Found
pub mod Applied
pub mod Parts

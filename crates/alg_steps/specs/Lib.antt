pub mod Stepped
pub mod Calling
pub mod Giving

pub mod Writing
pub mod Leading
pub mod Asking
pub mod Stepping
pub mod Entered
pub mod Concluding
pub mod Telling

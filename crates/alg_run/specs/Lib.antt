pub mod Events
pub mod Work
pub mod Complaining
pub mod Loaded
pub mod Checked
pub mod Demonstration
pub mod Asking
pub mod Run

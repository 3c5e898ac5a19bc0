pub mod Relations
pub mod Numbers
pub mod Ending

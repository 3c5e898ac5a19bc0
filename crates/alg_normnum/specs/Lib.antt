pub mod Answer
pub mod Sides

pub mod Answers
pub mod Claims
pub mod Filling
pub mod Letters
pub mod Lending
pub mod Progress
pub mod Sides
pub mod State

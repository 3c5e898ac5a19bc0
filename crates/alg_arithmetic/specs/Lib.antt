pub mod Evaluating
pub mod Operands

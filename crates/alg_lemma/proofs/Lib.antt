mod Alike
mod Having
mod Filled
mod Following
mod Adding
pub mod Named
pub mod LemmaNames

pub mod NamesRead
pub mod NamesSpelled
pub mod NewNames
pub mod Declarable
pub mod Telling

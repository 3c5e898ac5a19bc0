pub mod Adding
pub mod Binders
pub mod ClassNames
pub mod CommandFaults
pub mod Procedures
pub mod Said
pub mod Stated
pub mod Texts

pub mod Elaborated
pub mod Files
pub mod Fitting
pub mod FileTrees
pub mod Progress
pub mod Told

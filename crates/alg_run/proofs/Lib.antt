pub mod Working
pub mod Reading
pub mod Proving
pub mod Answering
pub mod CheckAnswering
pub mod Lengthening

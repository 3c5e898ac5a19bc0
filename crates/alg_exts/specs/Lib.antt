pub mod Covers
pub mod Valuing
pub mod Signs
pub mod Signing
pub mod Lists

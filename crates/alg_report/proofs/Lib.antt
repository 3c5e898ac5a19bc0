pub mod Doing
pub mod Reaching
pub mod Telling
pub mod Certifying
pub mod Ordering
pub mod Accepting
pub mod Seeing
pub mod Worked

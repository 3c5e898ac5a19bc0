pub mod Cuts
pub mod Cutting
pub mod Items
pub mod Outcome
pub mod Pieces

pub mod BindersGood
pub mod Compounds
pub mod EnteringLaws
pub mod Parts
pub mod StatementsGood
pub mod TypedGood

pub mod RowNames
pub mod Trees
pub mod Having
pub mod Chains
pub mod Signs
pub mod Calls
pub mod Orders

pub mod Common
pub mod Products

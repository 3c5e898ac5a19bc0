pub mod RowNames

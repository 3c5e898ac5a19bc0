pub mod OrderLaws
pub mod TreeLaws
pub mod KeyLaws

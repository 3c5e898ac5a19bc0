pub mod FormTree

pub mod FormTrees

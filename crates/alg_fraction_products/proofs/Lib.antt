pub mod SignNumbers
pub mod ProductNumbers
pub mod ProductLemmas
pub mod SizeTrees
pub mod SignTrees
pub mod HavingLemmas

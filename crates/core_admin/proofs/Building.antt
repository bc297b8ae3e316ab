-- New trees are made block by block.
pub mod Spends
pub mod BuildsHere
pub mod MadeTrees
pub mod BuildsBlock
pub mod BuiltUp
pub mod NewTree

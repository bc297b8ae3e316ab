-- Heads that are halved or cut, and new roots.
pub mod Parts
pub mod Relations
pub mod Walks
pub mod Contents
pub mod Divisions
pub mod Made
pub mod Raises
pub mod Cuts
pub mod Splits
pub mod NewRoots
pub mod RootCuts

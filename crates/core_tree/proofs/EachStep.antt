-- Each kind of step keeps the invariant.
pub mod PutsInLeaf
pub mod Descents
pub mod LeavesTree
pub mod VisitsBlock
pub mod ReadsGate
pub mod FillsPurse
pub mod EntersQueue
pub mod ComesIn
pub mod EntersTree

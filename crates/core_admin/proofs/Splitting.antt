-- A split at its end.
pub mod SplitKnown
pub mod SplitsShard
pub mod SplitSides
pub mod SplitShards
pub mod SplitsLineage
pub mod SplitBoxes
pub mod FinishesSplit
pub mod ChildGates
pub mod SplitReady
pub mod SplitMade

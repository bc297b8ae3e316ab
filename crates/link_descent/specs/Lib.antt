pub mod Visit
pub mod Pass
pub mod GateRead
pub mod Pick
pub mod Divide
pub mod MoreSets
pub mod Descend
pub mod Room
-- What stands below is passed on.
pub use Rattle.shard_store

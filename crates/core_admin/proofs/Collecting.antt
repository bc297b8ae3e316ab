-- A frozen shard is drained and read.
pub mod FrozenGates
pub mod Drains
pub mod ShardRows
pub mod Planes
pub mod Freezings
pub mod FreezesShard
pub mod FreezesHere
pub mod Stages
pub mod SoFar
pub mod CollectsBlocks
pub mod CollectsRows
pub mod CollectsTrees
pub mod CollectsHere
pub mod RowLists
pub mod SideRows

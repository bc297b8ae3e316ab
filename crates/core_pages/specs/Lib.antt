pub mod Looks
pub mod Blocks
pub mod Still
pub mod Shards
pub mod Seen
-- What stands below is passed on.
pub use Rattle.core_image.specs.shard_store
pub use Rattle.core_image.specs.link_descent
pub use Rattle.core_image.specs.tree_shape
pub use Rattle.core_image.specs.volap_cell
pub use Rattle.core_image

pub mod Building
pub mod Built
pub mod Sizes
-- What stands below is passed on.
pub use Rattle.tree_shape.specs.shard_store
pub use Rattle.tree_shape.specs.link_descent
pub use Rattle.tree_shape

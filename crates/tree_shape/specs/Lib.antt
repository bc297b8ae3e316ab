pub mod Shape
pub mod Walks
pub mod Trees
pub mod Queries
pub mod Steps
pub mod Tables
pub mod Collecting
pub mod Carrying
pub mod Visiting
pub mod Laws
pub mod Forest
pub mod Example
pub mod Cities
pub mod HeadCuts
pub mod PageLines
-- What stands below is passed on.
pub use Rattle.link_descent.specs.shard_store
pub use Rattle.link_descent

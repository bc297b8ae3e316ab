pub mod Floors
pub mod Takes
pub mod Made
pub mod Booked
pub mod Looks
-- What is passed on of the libraries below, module by module.
pub mod shard_store
pub mod link_descent
pub mod volap_cell
pub mod core_tree
pub mod core_image
pub mod core_shard
pub mod core_admin
pub mod core_steps
pub mod core_told
pub mod volap_turns
pub mod core_due
pub use Rattle.volap_turns.specs.core_counts

pub mod Begins
pub mod Books
pub mod Coming
pub mod Commands
pub mod Visits
-- What is passed on of the libraries below, module by module.
pub mod volap_cell
pub mod core_image
pub mod core_shard
pub mod core_admin
pub mod core_steps
pub mod core_told
pub mod volap_turns
pub mod core_due
pub mod seat_steps
pub mod part_steps
pub use Rattle.part_steps.specs.core_counts

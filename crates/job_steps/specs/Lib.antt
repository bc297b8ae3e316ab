pub mod Jobs
pub mod Dues
pub mod Turns
pub mod Reuses
-- What is passed on of the libraries below, module by module.
pub mod volap_cell
pub mod core_tree
pub mod core_image
pub mod core_steps
pub mod volap_turns
pub mod core_due
pub mod seat_steps

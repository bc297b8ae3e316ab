pub mod Rows
pub mod Tells
pub mod Both
pub mod Passing
-- What is passed on of the libraries below, module by module.
pub mod volap_cell
pub mod seat_steps
pub mod actor_run

pub mod Rounds
pub mod Hands
-- What is passed on of the libraries below, module by module.
pub mod volap_cell
pub mod core_told
pub mod seat_steps
pub mod session_steps
pub mod whole_steps
pub mod actor_run

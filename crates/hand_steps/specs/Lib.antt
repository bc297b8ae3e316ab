pub mod Hands
-- What is passed on of the libraries below, module by module.
pub mod volap_cell
pub mod core_told
pub mod volap_turns
pub mod seat_steps
pub mod session_steps

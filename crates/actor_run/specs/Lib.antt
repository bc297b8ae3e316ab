pub mod Passes
pub mod Halls
pub mod Opened
pub mod Driving
pub mod Everything
pub mod Called
pub mod Sessions
pub mod Doing
pub mod Cursors
pub mod Wholes
-- What is passed on of the libraries below, module by module.
pub mod volap_cell
pub mod volap_turns
pub mod seat_steps
pub mod session_steps
pub mod call_steps
pub mod whole_steps

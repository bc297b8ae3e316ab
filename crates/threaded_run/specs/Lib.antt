pub mod Streams
pub mod Jobs
pub mod Phases
-- What is passed on of the libraries below, module by module.
pub mod seat_steps
pub mod actor_run

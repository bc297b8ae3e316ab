pub mod Callers
pub mod Jobs
pub mod Pulls
pub mod Reuses
-- What is passed on of the libraries below, module by module.
pub mod seat_steps
pub mod actor_run

pub mod Words
pub mod Wanted
pub mod Outcomes
pub mod Statuses
pub mod OneRun
pub mod RowsKept
pub mod Settles
pub mod RunSoFar
pub mod Engines
pub mod Alone
pub mod Threads
pub mod Tells
pub mod Standing
pub mod Left
-- What is passed on of the libraries below, module by module.
pub mod volap_cell
pub mod script_roles
pub mod seeded_run

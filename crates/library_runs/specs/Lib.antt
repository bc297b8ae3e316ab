pub mod Index
pub mod Names
pub mod Text
-- What is passed on of the libraries below, module by module.
pub mod volap_cell
pub mod script_roles
pub mod seeded_run
pub mod olap_top

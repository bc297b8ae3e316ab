-- Queries that read on.
pub mod TreeSteps
pub mod BlocksLeft
pub mod QuerySteps
pub mod Walkers
pub mod OfAll

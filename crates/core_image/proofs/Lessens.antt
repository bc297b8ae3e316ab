-- What is left after a step.
pub mod Fars
pub mod Remains
pub mod Lefts

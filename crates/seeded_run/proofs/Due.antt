-- What is due, read backwards.
pub mod Dues
pub mod DueCommands
pub mod DueSteps
pub mod DueBegins
pub mod DueReuses

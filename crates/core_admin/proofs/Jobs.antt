-- A job, its stages and its command.
pub mod Staging
pub mod Controls
pub mod Stages
pub mod JobsGoOn
pub mod TurnedCommands
pub mod FinishedCommands
pub mod NextJobs
pub mod Finishings
pub mod FinishedJob

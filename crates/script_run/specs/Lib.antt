pub mod Phases
pub mod Places
pub mod Runs
pub mod Parts
pub mod Streams
pub mod Between
pub mod Worked

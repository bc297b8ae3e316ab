pub mod Later
pub mod Turns
pub mod Streams
pub mod Pulls
pub mod Ran
pub mod Phases
pub mod WorkedSessions

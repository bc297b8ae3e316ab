pub mod AtAction
pub mod CallsDue
pub mod CallsMade
pub mod OpenCalls
pub mod Syncing

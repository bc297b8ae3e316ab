pub mod Places
pub mod Summaries
pub mod Rows
pub mod Keeping

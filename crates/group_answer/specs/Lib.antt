pub mod Groups
pub mod Adding
pub mod Telling
pub mod Reading
pub mod Seen

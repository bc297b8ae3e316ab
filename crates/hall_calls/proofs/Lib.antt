pub mod Rows
pub mod Tellings
pub mod Both
pub mod Four
pub mod Captures

pub mod Limits
pub mod Fields
pub mod Table
pub mod Causes
pub mod Scripts
pub mod Fits
pub mod Reading
pub mod Faults

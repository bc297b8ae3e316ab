-- Trees that are made level by level, and empty ones.
pub mod Openings
pub mod Storeys
pub mod Forests
pub mod Leaves
pub mod Levels
pub mod Gates

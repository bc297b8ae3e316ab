pub mod Limits
pub mod Block
pub mod Summary
pub mod Todo
pub mod Leaf
pub mod Entry
pub mod Columns

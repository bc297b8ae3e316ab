pub mod Texts
pub mod Walks
pub mod Lines
pub mod Growing
pub mod Walked
pub mod Plain
pub mod Whole

pub mod Truth
pub mod Elements
pub mod Each
pub mod Times
pub mod Totals

pub mod Lifts
pub mod Orders
pub mod Shares
pub mod Cuts
pub mod Heads
pub mod Crossings
pub mod Groups
pub mod Partings

pub mod Numbered
pub mod Kept
pub mod Allowed
pub mod Order
pub mod Seats
pub mod Turned
pub mod Opened
pub mod Emptied

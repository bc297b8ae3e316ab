pub mod Numbered
pub mod Views
pub mod Rule
pub mod Law
pub mod Seat
pub mod Held

pub mod Desk
pub mod Progress

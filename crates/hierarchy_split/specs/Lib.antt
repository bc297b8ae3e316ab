pub mod Limits
pub mod Order
pub mod Cut
pub mod Crossing
pub mod Head
pub mod Best
pub mod Flags

pub mod Filled
pub mod Placed
pub mod Ordered
pub mod Known
pub mod Turned

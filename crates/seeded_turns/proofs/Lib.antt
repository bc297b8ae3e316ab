pub mod Able
pub mod Reaching
pub mod Keeping

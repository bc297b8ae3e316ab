pub mod Rounding
pub mod HandOver

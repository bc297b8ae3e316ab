pub mod Fitting
pub mod Pairing

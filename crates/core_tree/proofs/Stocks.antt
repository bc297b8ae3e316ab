-- Spares, purses and stamps.
pub mod Spares
pub mod Stamps
pub mod Counts
pub mod Exchanges

-- Where a step is due, the core has what its kind asks.
pub mod BeginsReady

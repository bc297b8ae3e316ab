pub mod specs
pub mod proofs

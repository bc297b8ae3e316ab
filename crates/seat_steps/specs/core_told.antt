pub mod proofs

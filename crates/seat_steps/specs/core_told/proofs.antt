pub use Rattle.volap_turns.specs.core_told.proofs.Pulled
pub use Rattle.volap_turns.specs.core_told.proofs.Pulling

pub use Rattle.volap_turns.proofs.Known
pub use Rattle.volap_turns.proofs.Placed
pub use Rattle.volap_turns.proofs.Turned

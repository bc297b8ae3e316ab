pub use Rattle.session_steps.specs.volap_turns.proofs.Known
pub use Rattle.session_steps.specs.volap_turns.proofs.Placed
pub use Rattle.session_steps.specs.volap_turns.proofs.Turned

pub use Rattle.seat_steps.specs.volap_turns.proofs.Known
pub use Rattle.seat_steps.specs.volap_turns.proofs.Placed
pub use Rattle.seat_steps.specs.volap_turns.proofs.Turned

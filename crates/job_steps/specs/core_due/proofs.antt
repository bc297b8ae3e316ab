pub use Rattle.seat_steps.specs.core_due.proofs.InStates

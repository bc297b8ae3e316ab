pub use Rattle.seat_steps.specs.core_told.proofs.Pulled
pub use Rattle.seat_steps.specs.core_told.proofs.Pulling

pub use Rattle.seat_steps.proofs.Around
pub use Rattle.seat_steps.proofs.Since

pub use Rattle.session_steps.specs.seat_steps.proofs.Around
pub use Rattle.session_steps.specs.seat_steps.proofs.Since

pub use Rattle.seat_steps.proofs.Around
pub use Rattle.seat_steps.proofs.HeldLedger
pub use Rattle.seat_steps.proofs.Left
pub use Rattle.seat_steps.proofs.Ranks
pub use Rattle.seat_steps.proofs.Since
pub use Rattle.seat_steps.proofs.Told
pub use Rattle.seat_steps.proofs.WithLedger

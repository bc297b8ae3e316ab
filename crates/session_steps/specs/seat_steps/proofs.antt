pub use Rattle.part_steps.specs.seat_steps.proofs.Around
pub use Rattle.part_steps.specs.seat_steps.proofs.HeldLedger
pub use Rattle.part_steps.specs.seat_steps.proofs.Left
pub use Rattle.part_steps.specs.seat_steps.proofs.Ranks
pub use Rattle.part_steps.specs.seat_steps.proofs.Since
pub use Rattle.part_steps.specs.seat_steps.proofs.Told
pub use Rattle.part_steps.specs.seat_steps.proofs.WithLedger

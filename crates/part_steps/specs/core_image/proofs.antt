pub use Rattle.seat_steps.specs.core_image.proofs.Answered
pub use Rattle.seat_steps.specs.core_image.proofs.Commands

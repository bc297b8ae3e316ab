pub use Rattle.core_due.specs.core_image.proofs.Answered
pub use Rattle.core_due.specs.core_image.proofs.Commands

pub use Rattle.part_steps.specs.core_told.proofs.Pulled
pub use Rattle.part_steps.specs.core_told.proofs.Pulling

pub use Rattle.hand_steps.specs.core_told.proofs.Pulled

pub use Rattle.session_steps.specs.core_told.proofs.Pulled

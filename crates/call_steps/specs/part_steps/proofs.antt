pub use Rattle.session_steps.specs.part_steps.proofs.Keeping

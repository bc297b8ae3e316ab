pub use Rattle.part_steps.proofs.Keeping

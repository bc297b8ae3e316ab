pub use Rattle.whole_steps.proofs.Telling

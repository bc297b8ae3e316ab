pub use Rattle.actor_run.specs.whole_steps.proofs.Telling

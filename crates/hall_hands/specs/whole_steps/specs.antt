pub use Rattle.actor_run.specs.whole_steps.specs.Settles
pub use Rattle.actor_run.specs.whole_steps.specs.declared

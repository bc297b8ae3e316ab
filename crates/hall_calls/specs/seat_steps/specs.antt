pub use Rattle.actor_run.specs.seat_steps.specs.declared

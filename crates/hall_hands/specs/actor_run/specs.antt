pub use Rattle.actor_run.specs.Called
pub use Rattle.actor_run.specs.Halls
pub use Rattle.actor_run.specs.Passes
pub use Rattle.actor_run.specs.Sessions
pub use Rattle.actor_run.specs.Wholes
pub use Rattle.actor_run.specs.declared

pub use Rattle.actor_run.specs.Halls
pub use Rattle.actor_run.specs.Passes
pub use Rattle.actor_run.specs.contracts

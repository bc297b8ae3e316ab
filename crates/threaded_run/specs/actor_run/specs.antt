pub use Rattle.hall_admin.specs.actor_run.specs.Halls
pub use Rattle.hall_admin.specs.actor_run.specs.Passes
pub use Rattle.hall_admin.specs.actor_run.specs.Wholes

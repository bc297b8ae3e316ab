pub use Rattle.actor_run.specs.volap_cell.specs.declared

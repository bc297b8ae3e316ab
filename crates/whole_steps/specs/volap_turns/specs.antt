pub use Rattle.job_steps.specs.volap_turns.specs.Law
pub use Rattle.job_steps.specs.volap_turns.specs.Rule
pub use Rattle.job_steps.specs.volap_turns.specs.Seats
pub use Rattle.job_steps.specs.volap_turns.specs.Wholes
pub use Rattle.job_steps.specs.volap_turns.specs.Worlds

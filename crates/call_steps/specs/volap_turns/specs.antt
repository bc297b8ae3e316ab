pub use Rattle.session_steps.specs.volap_turns.specs.Law
pub use Rattle.session_steps.specs.volap_turns.specs.Rows
pub use Rattle.session_steps.specs.volap_turns.specs.Rule
pub use Rattle.session_steps.specs.volap_turns.specs.Seats
pub use Rattle.session_steps.specs.volap_turns.specs.Wholes
pub use Rattle.session_steps.specs.volap_turns.specs.Worlds

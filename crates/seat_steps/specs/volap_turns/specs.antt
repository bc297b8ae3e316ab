pub use Rattle.volap_turns.specs.Law
pub use Rattle.volap_turns.specs.Rows
pub use Rattle.volap_turns.specs.Rule
pub use Rattle.volap_turns.specs.Seats
pub use Rattle.volap_turns.specs.Wholes
pub use Rattle.volap_turns.specs.Worlds

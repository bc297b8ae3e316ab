pub use Rattle.part_steps.specs.volap_turns.specs.Law
pub use Rattle.part_steps.specs.volap_turns.specs.Rows
pub use Rattle.part_steps.specs.volap_turns.specs.Rule
pub use Rattle.part_steps.specs.volap_turns.specs.Seats
pub use Rattle.part_steps.specs.volap_turns.specs.Wholes
pub use Rattle.part_steps.specs.volap_turns.specs.Worlds

pub use Rattle.session_steps.specs.volap_turns.specs.Seats

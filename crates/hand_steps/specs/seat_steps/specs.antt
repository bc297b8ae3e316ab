pub use Rattle.session_steps.specs.seat_steps.specs.Floors
pub use Rattle.session_steps.specs.seat_steps.specs.declared

pub use Rattle.session_steps.specs.seat_steps.specs.Booked
pub use Rattle.session_steps.specs.seat_steps.specs.Floors
pub use Rattle.session_steps.specs.seat_steps.specs.Made
pub use Rattle.session_steps.specs.seat_steps.specs.Takes
pub use Rattle.session_steps.specs.seat_steps.specs.declared

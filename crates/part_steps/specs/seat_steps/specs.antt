pub use Rattle.seat_steps.specs.Booked
pub use Rattle.seat_steps.specs.Floors
pub use Rattle.seat_steps.specs.Looks
pub use Rattle.seat_steps.specs.Made
pub use Rattle.seat_steps.specs.Takes
pub use Rattle.seat_steps.specs.declared

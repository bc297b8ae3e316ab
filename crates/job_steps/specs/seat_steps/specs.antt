pub use Rattle.seat_steps.specs.Booked
pub use Rattle.seat_steps.specs.Floors
pub use Rattle.seat_steps.specs.Takes
pub use Rattle.seat_steps.specs.contracts
pub use Rattle.seat_steps.specs.declared

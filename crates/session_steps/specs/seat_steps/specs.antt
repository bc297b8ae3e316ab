pub use Rattle.part_steps.specs.seat_steps.specs.Booked
pub use Rattle.part_steps.specs.seat_steps.specs.Floors
pub use Rattle.part_steps.specs.seat_steps.specs.Looks
pub use Rattle.part_steps.specs.seat_steps.specs.Made
pub use Rattle.part_steps.specs.seat_steps.specs.Takes
pub use Rattle.part_steps.specs.seat_steps.specs.declared

pub use Rattle.hand_steps.specs.seat_steps.specs.declared

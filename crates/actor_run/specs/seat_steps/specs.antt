pub use Rattle.whole_steps.specs.seat_steps.specs.declared

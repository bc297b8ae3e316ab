pub use Rattle.seat_steps.specs.core_steps.specs.declared

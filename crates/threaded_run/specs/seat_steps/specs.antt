pub use Rattle.hall_admin.specs.seat_steps.specs.declared

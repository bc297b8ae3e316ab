pub use Rattle.job_steps.specs.seat_steps.specs.declared

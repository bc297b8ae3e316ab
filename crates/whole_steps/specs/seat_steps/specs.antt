pub use Rattle.job_steps.specs.seat_steps.specs.Booked
pub use Rattle.job_steps.specs.seat_steps.specs.Floors
pub use Rattle.job_steps.specs.seat_steps.specs.Takes
pub use Rattle.job_steps.specs.seat_steps.specs.contracts
pub use Rattle.job_steps.specs.seat_steps.specs.declared

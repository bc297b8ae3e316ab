pub use Rattle.job_steps.specs.Reuses

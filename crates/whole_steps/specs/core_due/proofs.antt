pub use Rattle.job_steps.specs.core_due.proofs.InStates

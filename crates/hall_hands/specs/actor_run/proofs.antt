pub use Rattle.actor_run.proofs.Measured
pub use Rattle.actor_run.proofs.Sent
pub use Rattle.actor_run.proofs.hall
pub use Rattle.actor_run.proofs.session

pub use Rattle.actor_run.proofs.Sent
pub use Rattle.actor_run.proofs.hall

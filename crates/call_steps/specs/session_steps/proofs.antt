pub use Rattle.session_steps.proofs.CommandsMade
pub use Rattle.session_steps.proofs.Grown
pub use Rattle.session_steps.proofs.Heard
pub use Rattle.session_steps.proofs.Servers

pub use Rattle.call_steps.specs.session_steps.proofs.Grown
pub use Rattle.call_steps.specs.session_steps.proofs.Heard
pub use Rattle.call_steps.specs.session_steps.proofs.Servers

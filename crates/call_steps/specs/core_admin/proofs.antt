pub use Rattle.session_steps.specs.core_admin.proofs.Collecting

pub use Rattle.session_steps.specs.core_due.specs.Look
pub use Rattle.session_steps.specs.core_due.specs.Ready
pub use Rattle.session_steps.specs.core_due.specs.Reuses

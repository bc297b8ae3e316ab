pub use Rattle.call_steps.specs.session_steps.specs.Begins
pub use Rattle.call_steps.specs.session_steps.specs.Coming
pub use Rattle.call_steps.specs.session_steps.specs.Commands
pub use Rattle.call_steps.specs.session_steps.specs.Visits
pub use Rattle.call_steps.specs.session_steps.specs.declared

pub use Rattle.session_steps.specs.Begins
pub use Rattle.session_steps.specs.Coming
pub use Rattle.session_steps.specs.Commands
pub use Rattle.session_steps.specs.Visits
pub use Rattle.session_steps.specs.declared

pub use Rattle.call_steps.specs.Calls
pub use Rattle.call_steps.specs.Opened

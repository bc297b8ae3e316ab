pub use Rattle.whole_steps.specs.call_steps.specs.Calls
pub use Rattle.whole_steps.specs.call_steps.specs.Opened

pub use Rattle.whole_steps.specs.session_steps.specs.Begins

pub use Rattle.session_steps.specs.Begins

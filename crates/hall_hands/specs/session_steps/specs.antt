pub use Rattle.hand_steps.specs.session_steps.specs.Begins

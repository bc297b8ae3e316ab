pub use Rattle.whole_steps.specs.volap_turns.specs.Wholes

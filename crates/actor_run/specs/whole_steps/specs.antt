pub use Rattle.whole_steps.specs.Settles
pub use Rattle.whole_steps.specs.declared

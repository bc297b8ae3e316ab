pub use Rattle.call_steps.specs.part_steps.specs.Counts
pub use Rattle.call_steps.specs.part_steps.specs.Goings
pub use Rattle.call_steps.specs.part_steps.specs.Parts
pub use Rattle.call_steps.specs.part_steps.specs.Reads

pub use Rattle.part_steps.specs.Counts
pub use Rattle.part_steps.specs.Goings
pub use Rattle.part_steps.specs.Parts
pub use Rattle.part_steps.specs.Reads

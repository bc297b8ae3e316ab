pub use Rattle.session_steps.specs.part_steps.specs.Counts
pub use Rattle.session_steps.specs.part_steps.specs.Goings
pub use Rattle.session_steps.specs.part_steps.specs.Parts
pub use Rattle.session_steps.specs.part_steps.specs.Reads

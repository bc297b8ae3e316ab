pub use Rattle.part_steps.specs.core_steps.specs.Books
pub use Rattle.part_steps.specs.core_steps.specs.Notes
pub use Rattle.part_steps.specs.core_steps.specs.Parts
pub use Rattle.part_steps.specs.core_steps.specs.Places
pub use Rattle.part_steps.specs.core_steps.specs.Reuses
pub use Rattle.part_steps.specs.core_steps.specs.Steps
pub use Rattle.part_steps.specs.core_steps.specs.declared

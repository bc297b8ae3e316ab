pub use Rattle.part_steps.specs.core_due.specs.Look
pub use Rattle.part_steps.specs.core_due.specs.Ready
pub use Rattle.part_steps.specs.core_due.specs.Reuses
pub use Rattle.part_steps.specs.core_due.specs.Works
pub use Rattle.part_steps.specs.core_due.specs.WorksReady

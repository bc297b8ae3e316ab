pub use Rattle.seeded_run.specs.Kept
pub use Rattle.seeded_run.specs.Order
pub use Rattle.seeded_run.specs.Phase

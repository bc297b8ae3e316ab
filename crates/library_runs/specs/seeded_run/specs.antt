pub use Rattle.olap_top.specs.seeded_run.specs.Kept
pub use Rattle.olap_top.specs.seeded_run.specs.Order
pub use Rattle.olap_top.specs.seeded_run.specs.Phase

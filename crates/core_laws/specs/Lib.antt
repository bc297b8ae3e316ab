pub mod CellUse
pub mod Finishing
pub mod Lines
pub mod Meeting
-- What stands below is passed on.
pub use Rattle.core_tree.specs.volap_cell

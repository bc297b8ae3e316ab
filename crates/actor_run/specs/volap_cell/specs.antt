pub use Rattle.whole_steps.specs.volap_cell.specs.Numbering
pub use Rattle.whole_steps.specs.volap_cell.specs.Setting
pub use Rattle.whole_steps.specs.volap_cell.specs.declared

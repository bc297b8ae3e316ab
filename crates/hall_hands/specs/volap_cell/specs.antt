pub use Rattle.hand_steps.specs.volap_cell.specs.Numbering
pub use Rattle.hand_steps.specs.volap_cell.specs.Setting
pub use Rattle.hand_steps.specs.volap_cell.specs.declared

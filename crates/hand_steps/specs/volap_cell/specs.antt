pub use Rattle.session_steps.specs.volap_cell.specs.Errands
pub use Rattle.session_steps.specs.volap_cell.specs.Numbering
pub use Rattle.session_steps.specs.volap_cell.specs.Setting
pub use Rattle.session_steps.specs.volap_cell.specs.Sights
pub use Rattle.session_steps.specs.volap_cell.specs.Values
pub use Rattle.session_steps.specs.volap_cell.specs.declared

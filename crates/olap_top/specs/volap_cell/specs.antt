pub use Rattle.core_laws.specs.volap_cell.specs.State
pub use Rattle.core_laws.specs.volap_cell.specs.Steps
pub use Rattle.core_laws.specs.volap_cell.specs.declared

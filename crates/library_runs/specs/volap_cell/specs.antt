pub use Rattle.olap_top.specs.volap_cell.specs.State
pub use Rattle.olap_top.specs.volap_cell.specs.declared

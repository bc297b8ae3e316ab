pub use Rattle.core_pages.specs.volap_cell.proofs.Cells
pub use Rattle.core_pages.specs.volap_cell.proofs.boxes
pub use Rattle.core_pages.specs.volap_cell.proofs.cell
pub use Rattle.core_pages.specs.volap_cell.proofs.command
pub use Rattle.core_pages.specs.volap_cell.proofs.errand
pub use Rattle.core_pages.specs.volap_cell.proofs.gone_gates
pub use Rattle.core_pages.specs.volap_cell.proofs.job

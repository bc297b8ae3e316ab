pub use Rattle.core_due.specs.volap_cell.proofs.Cells
pub use Rattle.core_due.specs.volap_cell.proofs.Desks
pub use Rattle.core_due.specs.volap_cell.proofs.Persons
pub use Rattle.core_due.specs.volap_cell.proofs.Sums

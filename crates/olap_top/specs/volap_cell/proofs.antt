pub use Rattle.core_laws.specs.volap_cell.proofs.Histories

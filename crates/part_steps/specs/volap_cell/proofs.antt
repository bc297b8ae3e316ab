pub use Rattle.seat_steps.specs.volap_cell.proofs.Cells
pub use Rattle.seat_steps.specs.volap_cell.proofs.Sums

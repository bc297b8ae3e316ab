pub use Rattle.part_steps.specs.volap_cell.proofs.Cells

pub use Rattle.olap_top.proofs.PhaseSteps

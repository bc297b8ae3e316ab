pub use Rattle.part_steps.specs.volap_turns.proofs.Known
pub use Rattle.part_steps.specs.volap_turns.proofs.Placed
pub use Rattle.part_steps.specs.volap_turns.proofs.Turned

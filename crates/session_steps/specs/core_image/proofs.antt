pub use Rattle.part_steps.specs.core_image.proofs.Commands

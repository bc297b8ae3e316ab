pub use Rattle.part_steps.specs.core_admin.proofs.Collecting

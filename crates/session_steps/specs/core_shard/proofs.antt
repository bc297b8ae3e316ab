pub use Rattle.part_steps.specs.core_shard.proofs.FinishReady

pub use Rattle.core_due.specs.core_shard.proofs.FinishReady

pub use Rattle.seat_steps.specs.core_shard.proofs.FinishReady

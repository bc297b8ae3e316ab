pub use Rattle.core_due.specs.core_shard.specs.Due

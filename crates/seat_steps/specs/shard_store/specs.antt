pub use Rattle.core_due.specs.shard_store.specs.Gate
pub use Rattle.core_due.specs.shard_store.specs.declared

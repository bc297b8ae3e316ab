pub use Rattle.core_pages.specs.shard_store.specs.declared

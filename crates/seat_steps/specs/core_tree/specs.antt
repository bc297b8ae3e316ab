pub use Rattle.core_due.specs.core_tree.specs.ReadDue

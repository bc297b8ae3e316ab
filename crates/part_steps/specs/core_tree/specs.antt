pub use Rattle.seat_steps.specs.core_tree.specs.ReadDue

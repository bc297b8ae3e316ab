pub use Rattle.part_steps.specs.core_due.proofs.BooksHeld
pub use Rattle.part_steps.specs.core_due.proofs.EndsAsked
pub use Rattle.part_steps.specs.core_due.proofs.Holding
pub use Rattle.part_steps.specs.core_due.proofs.JobsAsked
pub use Rattle.part_steps.specs.core_due.proofs.Owned
pub use Rattle.part_steps.specs.core_due.proofs.PullsAsked
pub use Rattle.part_steps.specs.core_due.proofs.Released

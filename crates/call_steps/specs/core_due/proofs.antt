pub use Rattle.session_steps.specs.core_due.proofs.BooksHeld
pub use Rattle.session_steps.specs.core_due.proofs.Holding
pub use Rattle.session_steps.specs.core_due.proofs.Owned
pub use Rattle.session_steps.specs.core_due.proofs.Released

pub use Rattle.core_due.specs.core_admin.proofs.Collecting
pub use Rattle.core_due.specs.core_admin.proofs.Reusing

pub use Rattle.seat_steps.specs.core_admin.proofs.Collecting

pub use Rattle.call_steps.proofs.OpenCalls

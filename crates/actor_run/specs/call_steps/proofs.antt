pub use Rattle.whole_steps.specs.call_steps.proofs.OpenCalls

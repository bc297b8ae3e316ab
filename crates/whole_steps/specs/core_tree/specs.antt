pub use Rattle.job_steps.specs.core_tree.specs.ReadDue

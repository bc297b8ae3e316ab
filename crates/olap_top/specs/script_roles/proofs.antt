pub use Rattle.seeded_run.specs.script_roles.proofs.Roles

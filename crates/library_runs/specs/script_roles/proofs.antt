pub use Rattle.olap_top.specs.script_roles.proofs.Roles

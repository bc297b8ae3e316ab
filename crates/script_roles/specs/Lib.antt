pub mod Roles
-- What stands below is passed on.
pub use Rattle.volap_cell

pub mod Told
pub mod Pulling
-- What stands below is passed on.
pub use Rattle.volap_cell

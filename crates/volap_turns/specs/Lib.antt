pub mod Rule
pub mod Worlds
pub mod Law
pub mod Wholes
pub mod Rows
pub mod Made
pub mod Seats
-- What stands below is passed on.
pub use Rattle.core_told
pub use Rattle.core_counts

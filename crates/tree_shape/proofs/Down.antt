-- The way of a row from the gate down to its leaf.
pub mod Rows
pub mod Passes
pub mod Downs
pub mod Onto
pub mod Lands
pub mod Settles
pub mod Descends
pub mod Enters
pub mod ComesIn
pub mod Puts
pub mod Deepest
pub mod Comes

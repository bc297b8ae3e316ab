-- What servers know.
pub mod Paths
pub mod Boxes
pub mod Widens
pub mod Valid
pub mod Frontiers
pub mod Listings
pub mod Planned
pub mod Hosts
pub mod Heirs
pub mod Pushed
pub mod Pulled
pub mod MadePaths
pub mod KnownMade

-- Rows on their ways, at rest and carried.
pub mod Carriers
pub mod Moves
pub mod MovesRest
pub mod Less
pub mod Places
pub mod PlacesRead
pub mod Arrivals
pub mod Rests
pub mod Remains
pub mod AsFar

-- What a history tells of commands and shards.
pub mod Standings
pub mod Beginnings
pub mod Knowing
pub mod Books
pub mod Departures
pub mod Lines

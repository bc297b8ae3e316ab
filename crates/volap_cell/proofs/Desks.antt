-- Parts on desks, and the actors at them.
pub mod Inserts
pub mod Queries
pub mod Lists
pub mod Shared
pub mod Facts

-- What reads a tree: queries, and an administrator that collects.
pub mod Queries
pub mod Noted
pub mod Visits
pub mod Readings
pub mod Beginnings
pub mod VisitsLeft
pub mod Collects

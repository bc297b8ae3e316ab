pub mod Spots
pub mod Registry
pub mod Image
pub mod Rank

pub mod Balancing
pub mod Building

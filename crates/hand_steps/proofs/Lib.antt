pub mod AtDesks
pub mod Served

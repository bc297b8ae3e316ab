pub mod Told
pub mod Pulled
pub mod Pulling

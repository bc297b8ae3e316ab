pub mod Keeping
pub mod OpenJobs
pub mod Reusing

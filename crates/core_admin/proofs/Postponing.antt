-- A job is given up.
pub mod Returned
pub mod PostponesJob
pub mod PostponeReady

pub mod Again
pub mod Apart
pub mod Found
pub mod Leaves
pub mod Loops

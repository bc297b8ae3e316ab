pub mod Arms
pub mod Cells
pub mod Dues
pub mod Ending
pub mod Made
pub mod Rest
pub mod Reusing

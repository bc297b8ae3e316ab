-- An opening meets the invariant.
pub mod Past
pub mod Cells
pub mod Found
pub mod Shapes
pub mod View
pub mod Stock
pub mod Servers
pub mod Holds
pub mod Filled
pub mod Made

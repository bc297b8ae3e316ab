pub mod Sorted
pub mod Parts
pub mod Sets
pub mod Covering
pub mod Filters
pub mod Laws
pub mod Membership
pub mod Filled

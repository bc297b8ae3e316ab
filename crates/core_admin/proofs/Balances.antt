-- A balance reads loads, and plans.
pub mod PlanShards
pub mod LoadLists
pub mod LoadsRead
pub mod ReadsLoads
pub mod LoadsHere

pub mod Stocks
pub mod Rows
pub mod Queries
pub mod Calls
pub mod EachStep

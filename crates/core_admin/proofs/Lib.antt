pub mod Jobs
pub mod Collecting
pub mod Balances
pub mod Purses
pub mod Building
mod Untouched
pub mod Postponing
pub mod Retiring
pub mod Moving
mod ShardLines
mod SharedRows
mod SharedLineage
mod Endings
mod EndedCells
mod GoneRoom
pub mod Splitting
mod PlansAhead
mod KnownIds
pub mod TableSteps
pub mod Reusing

-- Commands that begin, go on and end.
pub mod Going
pub mod Laid
pub mod Begun
pub mod Owed
pub mod Ends
pub mod Backed
pub mod Jobs
pub mod NewCommands
pub mod JobsEnd
pub mod Endings
pub mod BalanceEnds
pub mod NextAction

-- A phase, its turns and its measure.
pub mod Shrinks
pub mod Waiting
pub mod Ranks
pub mod Limits
pub mod Measure
pub mod Progress
pub mod Movers
pub mod Ends
pub mod InTurn
pub mod Orders
pub mod OneTurn
pub mod PhaseRuns
pub mod Keeps
pub mod Turns
pub mod WholePhases
pub mod ByHand

-- A move at its end.
pub mod MovedShards
pub mod MovesLineage
pub mod MovedKnown
pub mod BalanceDone
pub mod MovesShard
pub mod FinishesMove
pub mod FinishReady
pub mod MoveMade

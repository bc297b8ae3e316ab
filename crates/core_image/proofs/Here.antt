-- What a kind asks of the cells is so in each state, and what it did is what the kind does.
pub mod Ready
pub mod Routed
pub mod AskedHere
pub mod AnsweredHere
pub mod SyncedHere
pub mod Telling

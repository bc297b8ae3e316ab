-- What the calls beneath a kind ask for, and what they did.
pub mod NewBlocks
pub mod Behind
pub mod GoesDown
pub mod GateDue
pub mod GoesIn
pub mod Lends

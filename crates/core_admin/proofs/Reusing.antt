-- The cells of a gate that is gone are used again.
pub mod Freeing
pub mod FreesCells
pub mod FreesBlock
pub mod FreesGate
pub mod ReusesHere
pub mod ReusesGateHere

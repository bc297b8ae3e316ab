-- What a step may hold.
pub mod Others
pub mod LeftAlone

pub mod Above
pub mod AtFirst
pub mod LastMoves
pub mod Grows
pub mod Leaving
pub mod Turning
pub mod Going
pub mod Counting

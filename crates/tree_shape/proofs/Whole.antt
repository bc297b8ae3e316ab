-- What holds of a whole tree: its rows, their aggregates and sets.
pub mod Sums
pub mod Tails
pub mod Groups
pub mod Trees
pub mod Assembled
pub mod Others
pub mod Totals
pub mod Beneath
pub mod Tables

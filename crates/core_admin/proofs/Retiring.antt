-- A gate retires, and open gates take its rows.
pub mod Gates
pub mod Trees
pub mod Left

-- Cells that are moved out and put back, and whose they are.
pub mod Numbers
pub mod States
pub mod Holding
pub mod Lifting
pub mod Blanks
pub mod Spares
pub mod Past
pub mod Lent

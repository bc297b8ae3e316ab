-- Worked examples, row by row through the laws.
pub mod Steps
pub mod CityFacts
pub mod Cities
pub mod HeadFacts
pub mod HeadCuts

pub mod TextFacts
pub mod MarkFacts
pub mod ToldPlaces
pub mod ToldLines
pub mod TellerFacts
pub mod Referring
pub mod SummaryFacts

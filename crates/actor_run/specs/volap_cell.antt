pub mod specs

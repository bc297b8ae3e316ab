pub use Rattle.seat_steps.specs.volap_cell.specs.Commands
pub use Rattle.seat_steps.specs.volap_cell.specs.Errands
pub use Rattle.seat_steps.specs.volap_cell.specs.ImageKinds
pub use Rattle.seat_steps.specs.volap_cell.specs.Planning
pub use Rattle.seat_steps.specs.volap_cell.specs.Setting
pub use Rattle.seat_steps.specs.volap_cell.specs.Sights
pub use Rattle.seat_steps.specs.volap_cell.specs.Values
pub use Rattle.seat_steps.specs.volap_cell.specs.declared

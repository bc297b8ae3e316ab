pub mod PassedGates
pub mod QuietLedger
pub mod SameRows
pub mod InLine
pub mod Meetings
pub mod CellUses

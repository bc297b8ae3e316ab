-- One event more in the history: what each part of the invariant keeps.
pub mod Ahead
pub mod Older
pub mod Rows
pub mod Trees
pub mod Known
pub mod Desks
pub mod Reads
pub mod Work
pub mod Told
pub mod Noted
pub mod Acked
pub mod Quiet
pub mod Synced

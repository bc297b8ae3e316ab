-- What streams still have.
pub mod Cursors
pub mod Firsts
pub mod Held
pub mod FirstCursors
pub mod Firstly

-- What a commit leaves of the view, field by field.
pub mod Frames
pub mod Seen
pub mod Touches
pub mod Commits
pub mod Fields
pub mod Trees
pub mod Parts
pub mod Books
pub mod Admin
pub mod Shown
pub mod Gates

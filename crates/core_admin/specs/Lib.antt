pub mod FreezeDue
pub mod CollectDue
pub mod BuildDue
pub mod FinishDue
pub mod LoadDue
pub mod SplitDue
pub mod ReuseDue
-- What stands below is passed on.
pub use Rattle.core_tree
pub use Rattle.core_image

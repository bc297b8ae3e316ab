pub mod Cutting
pub mod Whole
pub mod Reading
pub mod Down
pub mod Onward
pub mod Building
pub mod Examples

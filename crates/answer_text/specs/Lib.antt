pub mod Printed
pub mod Answer
pub mod Marks
pub mod Notes
pub mod Told
pub mod Summary

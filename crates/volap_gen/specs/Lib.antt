pub mod Generated
pub mod Printed
pub mod Names
pub mod Law

pub mod Alone
pub mod Indexes
pub mod Named
pub mod Texts

-- What a page tells.
pub mod Pageless
pub mod RowsDivided
pub mod PagesShown

pub use Rattle.core_pages.specs.link_descent.specs.Visit

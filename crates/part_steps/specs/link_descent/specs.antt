pub use Rattle.link_descent.specs.Visit

pub use Rattle.core_due.specs.link_descent.specs.declared

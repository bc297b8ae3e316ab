pub use Rattle.core_pages.specs.core_image.specs.Told

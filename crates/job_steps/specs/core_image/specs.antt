pub use Rattle.seat_steps.specs.core_image.specs.Told

pub use Rattle.seat_steps.specs.core_image.specs.Asking
pub use Rattle.seat_steps.specs.core_image.specs.NotesDue
pub use Rattle.seat_steps.specs.core_image.specs.Told

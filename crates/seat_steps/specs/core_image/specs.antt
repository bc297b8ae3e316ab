pub use Rattle.core_due.specs.core_image.specs.Asking
pub use Rattle.core_due.specs.core_image.specs.NotesDue
pub use Rattle.core_due.specs.core_image.specs.Told

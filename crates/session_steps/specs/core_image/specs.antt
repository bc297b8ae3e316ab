pub use Rattle.part_steps.specs.core_image.specs.NotesDue
pub use Rattle.part_steps.specs.core_image.specs.Told

-- What the notes in the ledger are, where their cells are, what they ask, and what they tell.
use Rattle.std.specs.Prelude.{ℕ, ⊤, List, ◌∷◌, Option, Some, Bool, true, false}
use Rattle.core_admin.specs.core_image.specs.{NotesDue.{CanNoteAsking, CanNoteCalled, CanNoteEnded, CanNoteLeft, CanNoteRefused, CanNoteShown, CanNoteUnknown}, Told.{Tells, called_by, ended_by, refused_by, unknown_by}, ToldPages.shown_by}
use Rattle.core_steps.specs.Books.{EndsIn}
use Rattle.core_steps.specs.Places.{one_at, two_at}
use Rattle.core_steps.specs.declared.notes.NoteStep.{NoteStep}
use Rattle.core_steps.specs.declared.notes.NoteStep.TheVariants as note
use Rattle.dim_hierarchy.specs.Dimension.{Dimension}
use Rattle.core_shard.specs.volap_cell.specs.{Cells.CellValue, Setting.{Setting, ledger_cell, registry_cell}, Sights.Sees, Values.ActorValue, World.World, declared.kind.Kind.Kind}
use Rattle.core_shard.specs.volap_cell.specs.declared.kind.Kind.TheVariants as kind

abbrev pub note_kind : NoteStep → Kind
note_kind step = kind.Note

abbrev pub note_places : NoteStep → List (Option ℕ)
note_places (note.Asking call workers) = two_at registry_cell ledger_cell
note_places step = one_at ledger_cell

abbrev pub note_asks : NoteStep → List Dimension → List (Option CellValue) → ActorValue → Type 0
note_asks (note.Unknown dim) h (Some ledger ∷ _) a = CanNoteUnknown ledger a
note_asks note.Refused h (Some ledger ∷ _) a = CanNoteRefused ledger a
note_asks (note.Called call) h (Some ledger ∷ _) a = CanNoteCalled h call.now ledger a
note_asks (note.Asking call workers) h (Some registry ∷ Some ledger ∷ _) a = CanNoteAsking call.now workers registry ledger a
note_asks (note.Ended how) h (Some ledger ∷ _) a = CanNoteEnded how ledger a
note_asks note.Left h (Some ledger ∷ _) a = CanNoteLeft ledger a
note_asks (note.Shown page) h (Some ledger ∷ _) a = CanNoteShown page ledger a
note_asks step h held a = ⊥

-- a page is what the state has, with everyone else idle
abbrev pub note_sees : NoteStep → Setting → World → ℕ → Type 0
note_sees (note.Shown page) s w n = Sees s w n page
note_sees step s w n = ⊤

abbrev pub note_tells : NoteStep → ActorValue → (was now : List (Option CellValue)) → Type 0
note_tells (note.Unknown dim) a (Some ledger ∷ _) (Some ledger_now ∷ _) = Tells (unknown_by dim) a ledger ledger_now
note_tells note.Refused a (Some ledger ∷ _) (Some ledger_now ∷ _) = Tells refused_by a ledger ledger_now
note_tells (note.Called call) a (Some ledger ∷ _) (Some ledger_now ∷ _) = Tells (called_by call.now) a ledger ledger_now
note_tells (note.Asking call workers) a (_ ∷ Some ledger ∷ _) (_ ∷ Some ledger_now ∷ _) = Tells (called_by call.now) a ledger ledger_now
note_tells (note.Ended how) a (Some ledger ∷ _) (Some ledger_now ∷ _) = Tells (ended_by how) a ledger ledger_now
note_tells note.Left a (Some ledger ∷ _) (Some ledger_now ∷ _) = EndsIn ledger ledger_now
note_tells (note.Shown page) a (Some ledger ∷ _) (Some ledger_now ∷ _) = Tells (shown_by page) a ledger ledger_now
note_tells step a was now = ⊤

-- whether it may find no memory
abbrev pub note_may_fail : NoteStep → Bool
note_may_fail (note.Unknown dim) = true
note_may_fail note.Refused = true
note_may_fail (note.Called call) = true
note_may_fail (note.Asking call workers) = true
note_may_fail step = false

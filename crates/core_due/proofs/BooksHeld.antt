-- Where what a step of a command asks is so, the actor may hold the step's cells: each is of its own kind.
use Rattle.std.proofs.Common.{ℕ, ◌≡◌, ◌<◌, [], ◌∷◌}
use Rattle.core_due.specs.{Ready.{IsStepAsked, IsStepPrepared}, WorksReady.{IsBookAsked, IsBookPrepared, IsNoteAsked, IsNotePrepared}}
use Rattle.core_due.proofs.Holding.{CanHoldAll, hold-one, hold-three, hold-two, prepared}
use Rattle.core_steps.specs.{Books.{book_asks, book_places}, Notes.{note_asks, note_places}, Parts.{part_asks, part_places}, Places.numbers, declared.books.BookStep.BookStep}
use Rattle.core_steps.specs.declared.books.BookStep.TheVariants as book
use Rattle.core_steps.specs.declared.notes.NoteStep.TheVariants as note
use Rattle.core_steps.specs.declared.parts.PartStep.TheVariants as part
use Rattle.row_ledger.specs.{declared.settings.How.How}
use Rattle.core_steps.specs.volap_cell.specs.{Cells.{DeskOf, ImageOf, TheLedger, TheRegistry, tag_of}, Invariant.InvWith, Setting.{Setting, actor_count, ledger_cell, registry_cell}, Steps.Inv, View.view, World.World}

module _ (s : Setting) (w : World) (inv : Inv s w) (n : ℕ) where
  abbrev i : InvWith s (view s w) inv.ghost_of
  i = inv.holds

  pub hold-ledger : CanHoldAll s w n (ledger_cell ∷ [])
  hold-ledger = record { each = (hold-one s w inv n ledger_cell TheLedger (i.numbering.tag ledger_cell) (λ e. cc), tt); apart = (tt, tt) }

  pub hold-desk : (desk x : ℕ) → tag_of (w.cells desk) ≡ DeskOf x → CanHoldAll s w n (desk ∷ [])
  hold-desk desk x desk_is = record { each = (hold-one s w inv n desk (DeskOf x) desk_is (λ e. cc), tt); apart = (tt, tt) }

  desk-ledger : (desk x : ℕ) → tag_of (w.cells desk) ≡ DeskOf x → CanHoldAll s w n (desk ∷ ledger_cell ∷ [])
  desk-ledger desk x desk_is = hold-two s w inv n desk ledger_cell (DeskOf x) TheLedger desk_is (i.numbering.tag ledger_cell) (λ e. cc) (λ e. cc) (λ e. cc)

  image-ledger : (image x : ℕ) → tag_of (w.cells image) ≡ ImageOf x → CanHoldAll s w n (image ∷ ledger_cell ∷ [])
  image-ledger image x image_is = hold-two s w inv n image ledger_cell (ImageOf x) TheLedger image_is (i.numbering.tag ledger_cell) (λ e. cc) (λ e. cc) (λ e. cc)

  desk-image : (desk image x : ℕ) → tag_of (w.cells desk) ≡ DeskOf x → tag_of (w.cells image) ≡ ImageOf x → CanHoldAll s w n (desk ∷ image ∷ [])
  desk-image desk image x desk_is image_is = hold-two s w inv n desk image (DeskOf x) (ImageOf x) desk_is image_is (λ e. cc) (λ e. cc) (λ e. cc)

  desk-image-ledger : (desk image x : ℕ) → tag_of (w.cells desk) ≡ DeskOf x → tag_of (w.cells image) ≡ ImageOf x → CanHoldAll s w n (desk ∷ image ∷ ledger_cell ∷ [])
  desk-image-ledger desk image x desk_is image_is =
      hold-three s w inv n desk image ledger_cell (DeskOf x) (ImageOf x) TheLedger desk_is image_is (i.numbering.tag ledger_cell) (λ e. cc) (λ e. cc) (λ e. cc) (λ e. cc) (λ e. cc) (λ e. cc)

  image-registry-ledger : (image x : ℕ) → tag_of (w.cells image) ≡ ImageOf x → CanHoldAll s w n (image ∷ registry_cell ∷ ledger_cell ∷ [])
  image-registry-ledger image x image_is =
      hold-three s w inv n image registry_cell ledger_cell (ImageOf x) TheRegistry TheLedger image_is (i.numbering.tag registry_cell) (i.numbering.tag ledger_cell) (λ e. cc) (λ e. cc) (λ e. cc) (λ e. cc) (λ e. cc) (λ e. cc)

  pub book-held : (step : BookStep) → IsBookAsked s w n step → CanHoldAll s w n (numbers (book_places step))
  book-held (book.Route desk image) k = desk-image desk image k.server k.desk_is k.image_is
  book-held (book.Ack desk image) k = desk-image-ledger desk image k.server k.desk_is k.image_is
  book-held (book.Answer desk) k = desk-ledger desk k.server k.desk_is
  book-held (book.Sync image) k = image-registry-ledger image k.server k.image_is
  book-held (book.FailUnrouted image) k = image-ledger image k.server k.image_is
  book-held (book.FailRouted desk image) k = desk-image-ledger desk image k.server k.desk_is k.image_is
  book-held (book.FailQuery desk) k = desk-ledger desk k.server k.desk_is

  -- So they are prepared.

  pub book-prepared : n < actor_count s → (step : BookStep) → IsBookAsked s w n step → IsBookPrepared s w n step
  book-prepared lt step asked = prepared s w inv n (book_places step) (book_asks step s.hierarchy) lt (book-held step asked) asked

  pub take-prepared : n < actor_count s → (desk : ℕ) → IsStepAsked s w n (part.TakePart desk) → IsStepPrepared s w n (part.TakePart desk)
  take-prepared lt desk asked = prepared s w inv n (part_places (part.TakePart desk)) (part_asks (part.TakePart desk) s.hierarchy) lt (hold-desk desk asked.server asked.desk_is) asked

  pub end-prepared : n < actor_count s → (how : How) → IsNoteAsked s w n (note.Ended how) → IsNotePrepared s w n (note.Ended how)
  end-prepared lt how asked = prepared s w inv n (note_places (note.Ended how)) (note_asks (note.Ended how) s.hierarchy) lt hold-ledger asked

  pub leave-prepared : n < actor_count s → IsNoteAsked s w n note.Left → IsNotePrepared s w n note.Left
  leave-prepared lt asked = prepared s w inv n (note_places note.Left) (note_asks note.Left s.hierarchy) lt hold-ledger asked

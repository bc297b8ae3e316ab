-- What the steps of inserts, queries and pulls that have begun are, where their cells are, what they ask, and what they tell.
use Rattle.std.specs.Prelude.{ℕ, ◌≡◌, ⊤, false, List, ◌∷◌, Option, Some, Bool, true}
use Rattle.core_admin.specs.core_image.specs.{Asking.CanAnswer, Due.CanAck, NotesDue.{CanFailQuery, CanFailRouted, CanFailUnrouted}, Pulling.CanSync, Routing.CanRoute}
use Rattle.core_steps.specs.Places.{two_at, three_at}
use Rattle.core_steps.specs.declared.books.BookStep.{BookStep}
use Rattle.core_steps.specs.declared.books.BookStep.TheVariants as book
use Rattle.dim_hierarchy.specs.Dimension.{Dimension}
use Rattle.row_ledger.specs.{Past.is_beginning, declared.event.Event.Event}
use Rattle.core_shard.specs.volap_cell.specs.{Cells.{CellValue, ledger_in}, Setting.{ledger_cell, registry_cell}, Values.ActorValue, declared.kind.Kind.Kind}
use Rattle.core_shard.specs.volap_cell.specs.declared.kind.Kind.TheVariants as kind

abbrev pub book_kind : BookStep → Kind
book_kind (book.Route desk image) = kind.Route
book_kind (book.Ack desk image) = kind.Ack
book_kind (book.Answer desk) = kind.Answer
book_kind (book.Sync image) = kind.Sync
book_kind (book.FailUnrouted image) = kind.Note
book_kind (book.FailRouted desk image) = kind.Note
book_kind (book.FailQuery desk) = kind.Note

abbrev pub book_places : BookStep → List (Option ℕ)
book_places (book.Route desk image) = two_at desk image
book_places (book.Ack desk image) = three_at desk image ledger_cell
book_places (book.Answer desk) = two_at desk ledger_cell
book_places (book.Sync image) = three_at image registry_cell ledger_cell
book_places (book.FailUnrouted image) = two_at image ledger_cell
book_places (book.FailRouted desk image) = three_at desk image ledger_cell
book_places (book.FailQuery desk) = two_at desk ledger_cell

abbrev pub book_asks : BookStep → List Dimension → List (Option CellValue) → ActorValue → Type 0
book_asks (book.Route desk_at image_at) h (Some desk ∷ Some image ∷ _) a = CanRoute desk image a
book_asks (book.Ack desk_at image_at) h (Some desk ∷ Some image ∷ Some ledger ∷ _) a = CanAck desk image ledger a
book_asks (book.Answer desk_at) h (Some desk ∷ Some ledger ∷ _) a = CanAnswer desk ledger a
book_asks (book.Sync image_at) h (Some image ∷ Some registry ∷ Some ledger ∷ _) a = CanSync image registry ledger a
book_asks (book.FailUnrouted image_at) h (Some image ∷ Some ledger ∷ _) a = CanFailUnrouted image ledger a
book_asks (book.FailRouted desk_at image_at) h (Some desk ∷ Some image ∷ Some ledger ∷ _) a = CanFailRouted desk image ledger a
book_asks (book.FailQuery desk_at) h (Some desk ∷ Some ledger ∷ _) a = CanFailQuery desk ledger a
book_asks step h held a = ⊥

-- What the ledger has more.

-- one event, which begins nothing
abbrev pub EndsIn : CellValue → CellValue → Type 0
EndsIn ledger ledger_now = (e : Event) × (is_beginning e ≡ false) × ((ledger_in ledger_now).history ≡ e ∷ (ledger_in ledger).history)

abbrev pub book_tells : BookStep → ActorValue → (was now : List (Option CellValue)) → Type 0
book_tells (book.Ack desk_at image_at) a (_ ∷ _ ∷ Some ledger ∷ _) (_ ∷ _ ∷ Some ledger_now ∷ _) = EndsIn ledger ledger_now
book_tells (book.Answer desk_at) a (_ ∷ Some ledger ∷ _) (_ ∷ Some ledger_now ∷ _) = EndsIn ledger ledger_now
book_tells (book.Sync image_at) a (_ ∷ _ ∷ Some ledger ∷ _) (_ ∷ _ ∷ Some ledger_now ∷ _) = EndsIn ledger ledger_now
book_tells (book.FailUnrouted image_at) a (_ ∷ Some ledger ∷ _) (_ ∷ Some ledger_now ∷ _) = EndsIn ledger ledger_now
book_tells (book.FailRouted desk_at image_at) a (_ ∷ _ ∷ Some ledger ∷ _) (_ ∷ _ ∷ Some ledger_now ∷ _) = EndsIn ledger ledger_now
book_tells (book.FailQuery desk_at) a (_ ∷ Some ledger ∷ _) (_ ∷ Some ledger_now ∷ _) = EndsIn ledger ledger_now
book_tells step a was now = ⊤

-- whether it may find no memory
abbrev pub book_may_fail : BookStep → Bool
book_may_fail (book.Route desk image) = true
book_may_fail (book.Sync image) = true
book_may_fail step = false

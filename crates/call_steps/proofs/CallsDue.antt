-- What the steps of called commands ask is so, in every state that the seat may be in.
use Rattle.std.proofs.Common.{◌≡◌, ◌≢◌, ◌∙◌, ℕ, ◌+◌, ◌^◌, ◌<◌, true, false, List, arith, Option, Some, None, refl, sym, ap, subst}
use Rattle.call_steps.specs.Calls.{CanCall, CanEndCall, CanLeaveAction}
use Rattle.session_steps.specs.core_due.proofs.{BooksHeld.{book-prepared, end-prepared, hold-ledger, leave-prepared}, EndsAsked.ended, Holding.{hold-two, prepared}, JobsAsked.left-asked, PullsAsked.{settle-asked, sync-asked}}
use Rattle.session_steps.specs.core_due.specs.{Works.pull_due, WorksReady.{IsWorkAsked, most_in}}
use Rattle.session_steps.specs.core_image.specs.NotesDue.{CanNoteAsking, CanNoteCalled}
use Rattle.session_steps.specs.core_steps.specs.{Books.{book_asks, book_places}, Notes.{note_asks, note_places}, Places.{one_at, two_at, values_at}}
use Rattle.session_steps.specs.core_steps.specs.declared.books.BookStep.TheVariants as book
use Rattle.session_steps.specs.core_steps.specs.declared.notes.NoteStep.TheVariants as note
use Rattle.dim_hierarchy.specs.Dimension.{Dimension}
use Rattle.row_ledger.specs.{Classes.class_of, Groups.IsCallOf, declared.class.Class.Class, declared.settings.{Call.Call, How.How}}
use Rattle.row_ledger.specs.declared.class.Class.TheVariants as class
use Rattle.session_steps.specs.seat_steps.proofs.Around.{around}
use Rattle.session_steps.specs.seat_steps.specs.{Booked.IsDue, Floors.{IsAround, IsSeated}, declared.floor.{Floor.Floor, Player.Player}}
use Rattle.turn_table.specs.Seat.{cell_count}
use Rattle.session_steps.specs.volap_cell.specs.{Cells.{CellValue, TheLedger, TheRegistry}, Commands.{MayCall, MayCallAs, MayNoteEnd, due_pull}, ImageKinds.{IsFree, asks_registry, doing}, Setting.{Setting, image_cell, ledger_cell, registry_cell}, Values.{ActorValue, actor_of}, World.World, declared.command.Work.Work, declared.role.Role.Role}
use Rattle.session_steps.specs.volap_cell.specs.declared.command.Work.TheVariants as work_is
use Rattle.session_steps.specs.volap_cell.specs.declared.role.Role.TheVariants as role

-- who may make a call that asks the registry is the administrator
admin-asks : (r : Role) (c : Class) → MayCallAs r c → asks_registry c ≡ true → r ≡ role.Admin
admin-asks role.Admin c may asks = refl
admin-asks (role.Session s) (class.Sync x) may asks = absurd (cc)
admin-asks (role.Session s) c may asks = absurd may
admin-asks role.Puller (class.Sync x) may asks = absurd (cc)
admin-asks role.Puller c may asks = absurd may
admin-asks (role.Hand worker) c may asks = absurd may

-- Where the registry stands.

registry-low : (k servers workers stock cells : ℕ) → k ≡ 2 → 3 + servers + servers + workers + stock ≡ cells → k < cells
registry-low k servers workers stock cells is all = omega arith

pub registry-within : (f : Floor) (p : Player) → IsSeated f p → (k : ℕ) → k ≡ registry_cell → k < cell_count f.table
registry-within f p seated k is = (let it = around f p seated in registry-low k _ _ _ _ is it.2.cells)

pub off-image : (server k image : ℕ) → k ≡ 2 → image ≡ 3 + server → image ≢ k
off-image server k image is also e = omega arith

module _ (f : Floor) (p : Player) where
  -- Steps over the ledger, alone or with the registry.

  pub ledger-due : (Asks : List Dimension → List (Option CellValue) → ActorValue → Type 0) → ((s : Setting) (w : World) → IsAround f p s w → Asks s.hierarchy (values_at w.cells (one_at ledger_cell)) (w.actors p.number)) → IsDue f p (one_at ledger_cell) Asks
  ledger-due Asks asked = record { prepared = λ s w is. prepared s w is.inv p.number (one_at ledger_cell) (Asks s.hierarchy) is.there (hold-ledger s w is.inv p.number) (asked s w is) }

  pub both-due : (Asks : List Dimension → List (Option CellValue) → ActorValue → Type 0) → ((s : Setting) (w : World) → IsAround f p s w → Asks s.hierarchy (values_at w.cells (two_at registry_cell ledger_cell)) (w.actors p.number))
      → IsDue f p (two_at registry_cell ledger_cell) Asks
  both-due Asks asked = record {
    prepared = λ s w is.
        prepared s w is.inv p.number (two_at registry_cell ledger_cell) (Asks s.hierarchy) is.there
        (hold-two s w is.inv p.number registry_cell ledger_cell TheRegistry TheLedger (is.inv.holds.numbering.tag registry_cell) (is.inv.holds.numbering.tag ledger_cell) (λ e. cc) (λ e. cc) (λ e. cc)) (asked s w is);
  }

  -- Beginnings.

  module _ (call : Call) (can : CanCall f call p) (s : Setting) (w : World) (is : IsAround f p s w) where
    about : (w.actors p.number).setting ≡ s
    about = is.inv.holds.numbering.about p.number

    free : IsFree (w.actors p.number)
    free = subst IsFree (sym is.actor) can.free

    allowed : MayCall (w.actors p.number).role call
    allowed = subst (λ (a : ActorValue). MayCall a.role call) (sym is.actor) can.allowed

    pub called-asked : asks_registry (class_of call) ≡ false → CanNoteCalled s.hierarchy call (w.cells ledger_cell) (w.actors p.number)
    called-asked alone = record {
      free = free;
      allowed = allowed;
      alone = alone;
      server = λ x e. subst (λ (k : ℕ). x < k) (sym is.servers ∙ ap (λ (t : Setting). t.servers) (sym about)) (can.server x e);
      valid = subst (λ (hs : List Dimension). IsCallOf hs call) (sym is.about) can.valid;
      ledger_is = is.inv.holds.numbering.tag ledger_cell;
    }

    pub asking-asked : asks_registry (class_of call) ≡ true → CanNoteAsking call f.with.workers (w.cells registry_cell) (w.cells ledger_cell) (w.actors p.number)
    asking-asked asks = record {
      free = free;
      spares = is.inv.holds.numbering.idle p.number (admin-asks (w.actors p.number).role (class_of call) allowed asks) (free).job;
      allowed = allowed;
      asks = asks;
      workers_are = sym is.workers ∙ ap (λ (t : Setting). t.workers) (sym about);
      registry_is = is.inv.holds.numbering.tag registry_cell;
      ledger_is = is.inv.holds.numbering.tag ledger_cell;
    }

  -- Pulls.

  module _ (of : ℕ) (work : Work) (server : ℕ) (command : (actor_of p.actor).command ≡ doing of work) (due : due_pull f.with.servers work ≡ Some server) (bytes : f.with.servers < 2 ^ 8) where
    module _ (s : Setting) (w : World) (is : IsAround f p s w) where
      mine : (k : Work) → work ≡ k → (w.actors p.number).command ≡ doing of k
      mine k its = ap (λ (a : ActorValue). a.command) is.actor ∙ command ∙ ap (doing of) its

      few : s.servers < 2 ^ 8
      few = subst (λ (k : ℕ). k < 2 ^ 8) (sym is.servers) bytes

      pull-asked : (k : Work) → work ≡ k → due_pull s.servers k ≡ Some server → IsWorkAsked s w p.number (pull_due (Some server))
      pull-asked (work_is.Sync x false) its next = subst (λ (o : Option ℕ). IsWorkAsked s w p.number (pull_due o)) next (sync-asked s w is.inv p.number of x false (mine (work_is.Sync x false) its) few)
      pull-asked (work_is.Settle pulls) its next = subst (λ (o : Option ℕ). IsWorkAsked s w p.number (pull_due o)) next (settle-asked s w is.inv p.number of pulls (mine (work_is.Settle pulls) its) few)
      pull-asked (work_is.Sync x true) its next = (let never : ◌≡◌ {A = Option ℕ} None (Some server) = next in absurd (cc))
      pull-asked k its next = (let never : ◌≡◌ {A = Option ℕ} None (Some server) = next in absurd (cc))

    pub pulls-due : IsDue f p (book_places (book.Sync (image_cell server))) (book_asks (book.Sync (image_cell server)))
    pulls-due = record {
      prepared = λ s w is. book-prepared s w is.inv p.number is.there (book.Sync (image_cell server)) (pull-asked s w is work refl (subst (λ (k : ℕ). due_pull k work ≡ Some server) (sym is.servers) due));
    }

  -- Ends.

  pub end-due : (h : How) → CanEndCall f h p → IsDue f p (note_places (note.Ended h)) (note_asks (note.Ended h))
  end-due h can = record {
    prepared = λ s w is.
        end-prepared s w is.inv p.number is.there h
        (ended s w is.inv p.number can.of can.work h (ap (λ (a : ActorValue). a.command) is.actor ∙ can.command)
        (subst (λ (x : ℕ × ActorValue). MayNoteEnd x.0 can.work (x.1).job h) (λ k. (sym is.servers k, sym is.actor k)) can.ends));
  }

  pub leave-due : (can : CanLeaveAction p) → most_in (work_is.Balance can.balance) < 2 ^ 8 → IsDue f p (note_places note.Left) (note_asks note.Left)
  leave-due can few = record {
    prepared = λ s w is.
        leave-prepared s w is.inv p.number is.there
        (left-asked s w is.inv p.number can.of (work_is.Balance can.balance) (ap (λ (a : ActorValue). a.command) is.actor ∙ can.command) few can.balance refl can.job (ap (λ (a : ActorValue). a.job) is.actor ∙ can.job_is) can.left);
  }

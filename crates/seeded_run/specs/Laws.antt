-- What is said of rests and of what is due.
use Rattle.std.specs.Prelude.{ℕ, ◌≡◌, ◌≢◌, ◌<◌, ◌≤◌, ◌⊎◌, true, if◌then◌else◌, List, [], ◌∷◌, length, drop, Some, None, slice_get, is_some}
use Rattle.dc_node.specs.{Block.entries_in, declared.entry.Entry.Entry}
use Rattle.row_ledger.specs.declared.event.Event.{Event}
use Rattle.script_run.specs.Places.{begins_in, begins_of}
use Rattle.core_pages.specs.volap_cell.specs.{Cells.block_in, Ghost.Ghost, Invariant.InvWith, Setting.{Setting, actor_count}, Sights.IsIdle, Values.{ActorValue, ErrandValue, OfRow}, View.view, World.{World, MustKeep}, declared.errand.RowErrand.RowErrand, declared.errand.Way.TheVariants.Carried, declared.kind.Kind.Kind, declared.kind.Kind.TheVariants.{PutInLeaf, Down}, declared.role.Role.TheVariants.Hand}
use Rattle.script_form.specs.declared.script.Command.{Command}
use Rattle.core_due.specs.{Due.led_to, Reuses.reuse_due, Wants.{is_block_free, wanted}}
use Rattle.seeded_run.specs.{Can.can_in_order, Due.{due_by, kind_or}, Rests.{PhaseRun, rest_of, stream_of}}

-- As a phase begins each session has its whole stream.
abbrev pub WholeLaw : Type 0
WholeLaw = (p : PhaseRun) (session : ℕ) → rest_of p p.before session ≡ stream_of p.with p.commands session

-- With an event that begins a command of a session its stream has that command no more, and all other streams stay.
abbrev pub RestLaw : Type 0
RestLaw = (p : PhaseRun) (e : Event) (history : List Event) (session : ℕ) → length (begins_of p.before session) ≤ length (begins_of history session)
    → rest_of p (e ∷ history) session ≡ (if begins_in session e then drop 1 (rest_of p history session) else rest_of p history session)

-- Nothing is due for an idle actor that isn't a hand, and whose stream is at its end, but that it uses a cell again, where it can.
abbrev pub IdleLaw : Type 0
IdleLaw = (s : Setting) (w : World) (rest : ℕ → List Command) (n : ℕ) → IsIdle (w.actors n) → ((worker : ℕ) → (w.actors n).role ≢ Hand worker) → rest n ≡ []
    → due_by s w rest n ≡ kind_or (reuse_due w (w.actors n)) None

-- its errand is a row's, which it carries at this block
pub record CarriesAt (a : ActorValue) (e : ErrandValue) (r : RowErrand) (gate block : ℕ) : Type 0 where
  pub errand : a.errand ≡ Some e
  pub row : e.task ≡ OfRow r
  pub way : r.way ≡ Carried gate block

-- Something is due for an actor that is at a part, where the part's worker knows its shard; of one that carries a row, that it goes
-- down or is put in a leaf.
abbrev pub AtPartLaw : Type 0
AtPartLaw = (s : Setting) (w : World) (rest : ℕ → List Command) (n : ℕ) (e : ErrandValue) → (w.actors n).errand ≡ Some e → is_some (led_to s w e) ≡ true
    → (k : Kind) × (due_by s w rest n ≡ Some k)

abbrev pub CarrierLaw : Type 0
CarrierLaw = (s : Setting) (w : World) (rest : ℕ → List Command) (n : ℕ) (e : ErrandValue) (r : RowErrand) (gate block : ℕ) → CarriesAt (w.actors n) e r gate block
    → (due_by s w rest n ≡ Some PutInLeaf) ⊎ (due_by s w rest n ≡ Some Down)

-- What it wants to go down is the child of an entry of its block.
abbrev pub WantedLaw : Type 0
WantedLaw = (s : Setting) (w : World) (n : ℕ) (e : ErrandValue) (r : RowErrand) (gate block c : ℕ) → CarriesAt (w.actors n) e r gate block
    → wanted s w (w.actors n) Down ≡ Some c
    → (place : ℕ) × (entry : Entry) × (slice_get (entries_in (block_in (w.cells block)).body) place ≡ Some entry) × (c ≡ entry.child)

-- No other actor must keep a block that is free for one.
abbrev pub FreeLaw : Type 0
FreeLaw = (s : Setting) (w : World) (n y : ℕ) → is_block_free s w n y ≡ true → (a : ℕ) → a < actor_count s → a ≢ n → ¬ MustKeep (w.actors a) y

-- Where commands go in order, no two actors can step.
abbrev pub OrderLaw : Type 0
OrderLaw = (s : Setting) (p : PhaseRun) (w : World) (g : Ghost) → InvWith s (view s w) g → (a b : ℕ) → can_in_order s p w a ≡ true → can_in_order s p w b ≡ true → a ≡ b

-- An actor at its seat: what holds of it while it holds cells, and between its steps.
use Rattle.std.specs.Prelude.{ℕ, ◌≡◌, ◌≢◌, ◌<◌, List, [], ◌∷◌, Option, Some, None}
use mathlib.Core.Option.{some}
use Rattle.volap_turns.specs.core_counts.specs.Counting.{IsCounted}
use Rattle.volap_turns.specs.core_told.specs.Pulling.{IsPulling}
use Rattle.list_words.specs.Counts.{Each}
use Rattle.seat_steps.specs.declared.floor.{Floor.Floor, Player.Player}
use Rattle.turn_table.specs.{Numbered.{Extends, value_of}, Seat.{cell_count, free_rank}}
use Rattle.core_due.specs.volap_cell.specs.{Cells.cell_of, Errands.{RowWay, block_at, way_of}, Setting.{Setting, ledger_cell}, Steps.{Inv, history_in}, Values.{ActorValue, actor_of}, World.{MustKeep, World}, declared.actor.Actor.Actor, declared.cell.Cell.Cell}
use Rattle.core_due.specs.volap_cell.specs.Setting as setting
use Rattle.volap_turns.specs.Seats.{Holds}

-- The cell that an actor must keep, with the rank that is told for it.

abbrev pub at_block : Option ℕ → List (ℕ × Option ℕ)
at_block None = []
at_block (Some y) = (y, Some free_rank) ∷ []

abbrev pub kept_on : Option RowWay → List (ℕ × Option ℕ)
kept_on None = []
kept_on (Some r) = at_block (block_at r.place)

abbrev pub kept_by : ActorValue → List (ℕ × Option ℕ)
kept_by a = kept_on (way_of a.errand)

-- for these cells these ranks were told
abbrev pub AreTold : List (ℕ × Option ℕ) → List (ℕ × Option ℕ) → Type 0
AreTold ranks kept = Each (λ r. value_of ranks r.0 ≡ some r.1) kept

-- An actor at its seat, which has it alone. It is about what the floor is about, and holds the cell that it must keep.
pub record IsSeated (f : Floor) (p : Player) : Type 0 where
  pub holds : Holds f.hierarchy f.table p.seat p.number p.actor
  pub alone : (j : ℕ) (x : Actor) → value_of p.seat.view.actors j ≡ some x → j ≡ p.number
  pub servers : (actor_of p.actor).setting.servers ≡ f.with.servers
  pub workers : (actor_of p.actor).setting.workers ≡ f.with.workers
  pub kept : AreTold p.seat.ranks (kept_by (actor_of p.actor))

-- between its steps it holds that cell alone
pub record Stands (f : Floor) (p : Player) : Type 0 where
  pub seated : IsSeated f p
  pub bare : p.seat.ranks ≡ kept_by (actor_of p.actor)

-- A state that the seat may be in: it meets the invariant, open commands have pulled there as far as they say, the actor has counted
-- the parts that it sent on, and it has the actor and the held cells, which no other actor must keep.
pub record IsAround (f : Floor) (p : Player) (s : Setting) (w : World) : Type 0 where
  pub about : s.hierarchy ≡ f.hierarchy
  pub servers : s.servers ≡ f.with.servers
  pub workers : s.workers ≡ f.with.workers
  pub inv : Inv s w
  pub pulling : IsPulling s w
  pub counted : IsCounted s w p.number p.actor.went
  pub actor : w.actors p.number ≡ actor_of p.actor
  pub there : p.number < setting.actor_count s
  pub cells : setting.cell_count s ≡ cell_count f.table
  pub held : (k : ℕ) (c : Cell) → value_of p.seat.view.held k ≡ some c → w.cells k ≡ cell_of c
  pub free : (k : ℕ) (c : Cell) → value_of p.seat.view.held k ≡ some c → (j : ℕ) → j ≢ p.number → ¬ MustKeep (w.actors j) k
  -- what the seat has seen of the history is so still, and who holds the ledger has seen it whole
  pub behind : Extends (history_in w) p.seat.view.seen
  pub seen : (c : Cell) → value_of p.seat.view.held ledger_cell ≡ some c → history_in w ≡ p.seat.view.seen

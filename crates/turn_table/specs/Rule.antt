-- The rule of the table: how its words, its slots and the views of its seats stand to one state of the core.
use Rattle.std.specs.Prelude.{◌≡◌, ◌≢◌, ◌⊎◌, ℕ, ◌+◌, ◌<◌, List, [], length, slice_index, Option, Some}
use mathlib.Core.Option.{some}
use lib.ListN.{get_elem?}
use Rattle.atomic_table.specs.Table.{State}
use Rattle.turn_table.specs.{Numbered.{value_of, HaveOwnNumbers, Extends}, Views.HasAll, declared.view.View.View}

-- what a seat knows is so in this state
pub record Agrees {Cell Actor Entry : Type 0} (log_at : ℕ) (log : Cell → List Entry) (cells : List Cell) (actors : List Actor) (v : View Cell Actor Entry) : Type 0 where
  pub held : (k : ℕ) (c : Cell) → value_of v.held k ≡ some c → get_elem? cells k ≡ some c
  pub own : (i : ℕ) (a : Actor) → value_of v.actors i ≡ some a → get_elem? actors i ≡ some a
  pub seen : (c : Cell) → get_elem? cells log_at ≡ some c → Extends (log c) v.seen
  pub told : (c : Cell) → get_elem? cells log_at ≡ some c → Extends (log c) v.told
  -- who holds the cell of the list has seen it whole
  pub fresh : (c : Cell) → value_of v.held log_at ≡ some c → v.seen ≡ log c

-- the seat j alone has what is in its view
pub record IsPlaced {Cell Actor Entry : Type 0} (needs : Actor → ℕ → Type 0) (holder home : ℕ → ℕ) (words : List ℕ) (j : ℕ) (v : View Cell Actor Entry) : Type 0 where
  pub holds : (k : ℕ) (c : Cell) → value_of v.held k ≡ some c → (holder k ≡ j) × (slice_index words k ≡ v.number + 1)
  pub has : (i : ℕ) (a : Actor) → value_of v.actors i ≡ some a → home i ≡ j
  pub distinct : HaveOwnNumbers v.held
  pub apart : HaveOwnNumbers v.actors
  -- a seat with an actor has the one of its own number, and one with none holds no cell
  pub own : v.actors ≢ [] → (a : Actor) × (value_of v.actors v.number ≡ some a)
  pub bare : v.actors ≡ [] → v.held ≡ []
  -- it holds the cells that its actors must keep
  pub keep : (i : ℕ) (a : Actor) (k : ℕ) → value_of v.actors i ≡ some a → needs a k → (c : Cell) × (value_of v.held k ≡ some c)

module _ {Cell Actor Entry : Type 0} where
  -- the cell is free and lies in its slot
  abbrev pub Rests : State (Option Cell) (View Cell Actor Entry) → ℕ → Cell → Type 0
  Rests s k c = (slice_index s.words k ≡ 0) × (get_elem? s.homes k ≡ some (some (Some c)))

  -- the cell is with the seat j
  abbrev pub IsHeld : State (Option Cell) (View Cell Actor Entry) → ℕ → ℕ → Cell → Type 0
  IsHeld s j k c = (slice_index s.words k ≢ 0) × ((v : View Cell Actor Entry) × (get_elem? s.views j ≡ some v) × (value_of v.held k ≡ some c))

-- there is a state of the core whose cells rest or are held, and whose actors are with the seats
pub record IsUnderTurns {Cell Actor Entry : Type 0} (invariant : List Cell → List Actor → Type 0) (log_at : ℕ) (log : Cell → List Entry) (needs : Actor → ℕ → Type 0) (count : ℕ) (s : State (Option Cell) (View Cell Actor Entry)) : Type 0 where
  pub cells : List Cell
  pub actors : List Actor
  -- the seat that holds a cell, and the one that has an actor
  pub holder : ℕ → ℕ
  pub home : ℕ → ℕ
  pub wide : length s.words ≡ length cells
  pub deep : length s.homes ≡ length cells
  pub many : length actors ≡ count
  pub logged : log_at < length cells
  pub valid : invariant cells actors
  pub each_cell : (k : ℕ) (c : Cell) → get_elem? cells k ≡ some c → Rests s k c ⊎ IsHeld s (holder k) k c
  pub each_seat : (j : ℕ) (v : View Cell Actor Entry) → get_elem? s.views j ≡ some v → Agrees log_at log cells actors v × IsPlaced needs holder home s.words j v
  pub each_count : (j : ℕ) (v : View Cell Actor Entry) → get_elem? s.views j ≡ some v → v.actors ≢ [] → (v.cell_count ≡ length cells) × (v.actor_count ≡ length actors)
  pub each_actor : (i : ℕ) (a : Actor) → get_elem? actors i ≡ some a → (v : View Cell Actor Entry) × (get_elem? s.views (home i) ≡ some v) × (value_of v.actors i ≡ some a)
  -- what a seat with all actors has seen is still so
  pub each_known : (j : ℕ) (v : View Cell Actor Entry) → get_elem? s.views j ≡ some v → HasAll count v → (k : ℕ) (c : Cell) → value_of v.known k ≡ some c → get_elem? cells k ≡ some c
  -- a seat with an actor has seen the whole list
  pub whole : (j : ℕ) × (v : View Cell Actor Entry) × (get_elem? s.views j ≡ some v) × (v.actors ≢ []) × ((c : Cell) → get_elem? cells log_at ≡ some c → log c ≡ v.seen)

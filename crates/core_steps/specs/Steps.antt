-- A step over the cells that it holds, and over a state that one thread holds.
use Rattle.std.specs.Prelude.{ℕ, ◌≡◌, ◌≢◌, ◌<◌, List, length, Option}
use Rattle.core_steps.specs.Places.{numbers, swaps, values_at}
use Rattle.dim_hierarchy.specs.Dimension.{Dimension}
use Rattle.list_words.specs.Counts.{Each}
use Rattle.core_shard.specs.volap_cell.specs.{Cells.CellValue, Setting.Setting, State.{AreDifferent, HasInv, IsWorldOf, Stepped, changes_of}, Steps.{HasSight, Inv, Makes}, Values.ActorValue, World.{World, MustKeep}, declared.cell.Cell.Cell, declared.kind.Kind.Kind, declared.state.State.State}

-- Over cells.

-- A step of a kind made the cells at these places and the actor what they are now. Where it asks more of the state than its cells
-- show, that was so.
pub record Went (h : List Dimension) (kind : Kind) (Sees : Setting → World → ℕ → Type 0) (row : List (Option ℕ)) (was now : List (Option Cell)) (a b : ActorValue) : Type 0 where
  pub makes : Makes h kind (changes_of (swaps row was now)) a b
  pub sight : (s : Setting) (w : World) (n : ℕ) → Sees s w n → HasSight s w n h kind (changes_of (swaps row was now)) a b makes.does

-- Over a state.

-- it meets the invariant, over these dimensions
abbrev pub IsSound : List Dimension → State → Type 0
IsSound h state = HasInv h state.cells.items state.actors.items

-- it is what one step of a kind made of another, or it is the same as another but for the rooms in it

abbrev pub IsFurther : List Dimension → Kind → ℕ → State → State → Type 0
IsFurther h kind n was now = Stepped h kind n was.cells.items was.actors.items now.cells.items now.actors.items

-- In a state an actor may hold the cells at these places, which no other actor must keep, and what its step asks of them is so.
pub record IsReady (w : World) (row : List (Option ℕ)) (n : ℕ) (Asks : List (Option CellValue) → ActorValue → Type 0) : Type 0 where
  pub unkept : (a : ℕ) → a ≢ n → Each (λ y. ¬ MustKeep (w.actors a) y) (numbers row)
  pub asked : Asks (values_at w.cells row) (w.actors n)

-- an actor of a state may make a step over the cells at these places
pub record MayMake (h : List Dimension) (state : State) (n : ℕ) (row : List (Option ℕ)) (Asks : List (Option CellValue) → ActorValue → Type 0) (Sees : Setting → World → ℕ → Type 0) : Type 0 where
  pub within : Each (λ y. y < length state.cells.items) (numbers row)
  pub apart : AreDifferent (numbers row)
  pub actor : n < length state.actors.items
  pub ready : (w : World) → IsWorldOf state.cells.items state.actors.items w → IsReady w row n Asks
  pub seen : (s : Setting) (w : World) → s.hierarchy ≡ h → IsWorldOf state.cells.items state.actors.items w → Inv s w → Sees s w n

-- the same state as before, whatever rooms the vectors in it have now
pub record IsSame (was now : State) : Type 0 where
  pub cells_kept : length now.cells.items ≡ length was.cells.items
  pub actors_kept : length now.actors.items ≡ length was.actors.items
  pub same : (w : World) → IsWorldOf was.cells.items was.actors.items w → IsWorldOf now.cells.items now.actors.items w

-- what a step tells of its actor and its cells is so of the state
abbrev pub IsTold : State → State → ℕ → List (Option ℕ) → (ActorValue → (was now : List (Option CellValue)) → Type 0) → Type 0
IsTold was now n row Tells = (w v : World) → IsWorldOf was.cells.items was.actors.items w → IsWorldOf now.cells.items now.actors.items v
    → Tells (w.actors n) (values_at w.cells row) (values_at v.cells row)

-- every other cell is as it was
abbrev pub IsSpared : State → State → List (Option ℕ) → Type 0
IsSpared was now row = (w v : World) → IsWorldOf was.cells.items was.actors.items w → IsWorldOf now.cells.items now.actors.items v
    → (y : ℕ) → Each (λ z. y ≢ z) (numbers row) → v.cells y ≡ w.cells y

-- The state that vectors of cells and actors are, as one thread holds them; and what becomes of it when an actor and some cells are
-- moved out, changed by a kind, and put back.
use Rattle.std.specs.Prelude.{ℕ, ◌≡◌, ◌≢◌, ◌<◌, ◌≤◌, ⊤, List, [], ◌∷◌, map, length, get_or, set, Option, Some, None}
use Rattle.dim_hierarchy.specs.Dimension.{Dimension}
use Rattle.list_words.specs.Counts.{Each}
use Rattle.volap_cell.specs.{Cells.{FreeCell, cell_of}, Ghost.Ghost, Invariant.InvWith, Opening.IsFresh, Setting.Setting, Steps.{Inv, IsKept, IsReached}, Values.actor_of, View.view, World.{World, Change, MustKeep, change}, declared.actor.Actor.Actor, declared.cell.Cell.Cell, declared.kind.Kind.Kind}

-- The state.

-- something stands at a place, and P holds of it
abbrev pub Has : {A : Type 0} → Option A → (A → Type 0) → Type 0
Has None P = ⊥
Has (Some x) P = P x

-- Nothing is out, and the cells and actors are those of the state; past the last cell all are free, and past the last actor each
-- has done nothing.
pub record IsWorldOf (cells : List (Option Cell)) (actors : List (Option Actor)) (w : World) : Type 0 where
  pub cell : (y : ℕ) → y < length cells → Has (get_or cells y None) (λ c. cell_of c ≡ w.cells y)
  pub no_cell : (y : ℕ) → length cells ≤ y → w.cells y ≡ FreeCell
  pub actor : (a : ℕ) → a < length actors → Has (get_or actors a None) (λ x. actor_of x ≡ w.actors a)
  pub no_actor : (a : ℕ) → length actors ≤ a → IsFresh (w.actors a).setting a (w.actors a)

-- the vectors are a state that meets the invariant, over these dimensions
pub record HasInv (h : List Dimension) (cells : List (Option Cell)) (actors : List (Option Actor)) : Type 0 where
  pub setting : Setting
  pub hierarchy : setting.hierarchy ≡ h
  pub world : World
  pub is : IsWorldOf cells actors world
  pub inv : Inv setting world

-- Moving out, and putting back.

-- no two of these numbers are the same
abbrev pub AreDifferent : List ℕ → Type 0
AreDifferent [] = ⊤
AreDifferent (y ∷ ys) = Each (λ z. z ≢ y) ys × AreDifferent ys

-- something stands at each of these places, and no place is named twice
pub record CanLift {A : Type 0} (places : List (Option A)) (numbers : List ℕ) : Type 0 where
  pub there : Each (λ y. Has (get_or places y None) (λ x. ⊤)) numbers
  pub apart : AreDifferent numbers

-- these are what stands at their places
abbrev pub Stand : {A : Type 0} → List (Option A) → List (ℕ × A) → Type 0
Stand places things = Each (λ thing. get_or places thing.0 None ≡ Some thing.1) things

-- the places when what stood there is out
abbrev pub taken : {A : Type 0} → List ℕ → List (Option A) → List (Option A)
taken [] places = places
taken (y ∷ ys) places = taken ys (set places y None)

-- the places when all of it is put in, the first one last
abbrev pub given : {A : Type 0} → List (ℕ × A) → List (Option A) → List (Option A)
given [] places = places
given (thing ∷ things) places = set (given things places) thing.0 (Some thing.1)

-- a cell that is out at times only
abbrev pub cell_if : ℕ → Option Cell → List (ℕ × Cell)
cell_if number None = []
cell_if number (Some cell) = (number, cell) ∷ []

-- A kind between.

-- a cell that is moved out, and the one that is put back in its place
pub record Exchange : Type 0 where
  pub number : ℕ
  pub before : Cell
  pub now : Cell

abbrev pub exchange : ℕ → Cell → Cell → Exchange
exchange number before now = record { number = number; before = before; now = now }

-- one of a cell that is out at times only
abbrev pub exchange_if : ℕ → Option Cell → Option Cell → List Exchange
exchange_if number (Some before) (Some now) = exchange number before now ∷ []
exchange_if number _ _ = []

abbrev pub numbers_of : List Exchange → List ℕ
numbers_of exchanges = map (λ x. x.number) exchanges

abbrev pub cells_before : List Exchange → List (ℕ × Cell)
cells_before exchanges = map (λ x. (x.number, x.before)) exchanges

abbrev pub cells_now : List Exchange → List (ℕ × Cell)
cells_now exchanges = map (λ x. (x.number, x.now)) exchanges

-- what these are to a kind
abbrev pub changes_of : List Exchange → List Change
changes_of exchanges = map (λ x. change x.number (cell_of x.before) (cell_of x.now)) exchanges

-- cells that are held and aren't changed yet
abbrev pub still : List (ℕ × Cell) → List Change
still held = map (λ thing. change thing.0 (cell_of thing.1) (cell_of thing.1)) held

-- no other actor must keep the cell
abbrev pub IsUnkept : List (Option Actor) → ℕ → ℕ → Type 0
IsUnkept actors n y = (a : ℕ) → a ≢ n → a < length actors → Has (get_or actors a None) (λ x. ¬ MustKeep (actor_of x) y)

-- these cells and this actor are those that a step may hold: they stand at their places, and no other actor must keep one of them
pub record MayHold (cells : List (Option Cell)) (actors : List (Option Actor)) (held : List (ℕ × Cell)) (n : ℕ) (a : Actor) : Type 0 where
  pub stand : Stand cells held
  pub actor_is : get_or actors n None ≡ Some a
  pub unkept : Each (λ thing. IsUnkept actors n thing.0) held

-- the vectors are the state after a step, which keeps what a kind keeps, and are reached as it was
pub record IsStepped (s : Setting) (kind : Kind) (n : ℕ) (w : World) (ghost : Ghost) (cells : List (Option Cell)) (actors : List (Option Actor)) : Type 0 where
  pub now : World
  pub is : IsWorldOf cells actors now
  pub kept : IsKept s kind n w now ghost
  pub reached : IsReached s now

-- The vectors after a step of an actor, from what they were before: whatever state they were then, if it meets the invariant, they
-- are now the state after one step of this kind, which meets it too.
pub record Stepped (h : List Dimension) (kind : Kind) (n : ℕ) (cells : List (Option Cell)) (actors : List (Option Actor)) (cells_now : List (Option Cell)) (actors_now : List (Option Actor)) : Type 0 where
  pub cells_kept : length cells_now ≡ length cells
  pub actors_kept : length actors_now ≡ length actors
  pub step : (s : Setting) (w : World) (ghost : Ghost) → s.hierarchy ≡ h → IsWorldOf cells actors w → InvWith s (view s w) ghost → IsReached s w
      → IsStepped s kind n w ghost cells_now actors_now

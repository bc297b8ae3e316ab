-- The head to which a row's step comes, with what is held besides it: where it is full, the next two blocks behind it, as many as there
-- are, and cells for new blocks.
use Rattle.std.specs.Prelude.{ℕ, ◌≡◌, ◌<◌, ◌≤◌, ◌++◌, ⊤, false, List, [], ◌∷◌, length, map, slice_get, Option, Some}
use mathlib.Core.Option.{none, some}
use Rattle.seat_steps.specs.core_due.specs.{Ready.IsRowPrepared, Rows.{first_behind, held_for, row_of, second_behind}}
use Rattle.seat_steps.specs.core_steps.specs.{Places.numbers, Rows.{row_kind, row_places}, declared.rows.RowStep.RowStep}
use Rattle.seat_steps.specs.core_steps.specs.declared.rows.RowStep.TheVariants as row_step
use Rattle.dc_node.specs.{Block.{IsBodyOf, entries_in, is_leaf}, declared.entry.Entry.Entry}
use Rattle.dim_hierarchy.specs.{Dimension.Dimension, Rows.IsRowOf, declared.row.Row.Row}
use Rattle.link_descent.specs.Pick.{pick_place}
use Rattle.list_words.specs.Counts.{Each}
use Rattle.part_steps.specs.declared.heads.{Group.Group, Head.Head}
use Rattle.seat_steps.specs.{Floors.{IsAround, IsSeated}, Made.IsKeptBy, Takes.IsSameActor, declared.floor.{Floor.Floor, Player.Player}}
use Rattle.turn_table.specs.{Numbered.{numbers_of, value_of}, Seat.{cell_count, free_rank}}
use Rattle.seat_steps.specs.volap_cell.specs.{Cells.{CellValue, block_in, way_in}, Setting.Setting, State.AreDifferent, Values.ActorValue, World.World, declared.cell.Cell.Cell}

-- so it is in every state that the seat may be in
abbrev pub InAll : Floor → Player → (World → Type 0) → Type 0
InAll f p P = (s : Setting) (w : World) → IsAround f p s w → P w

-- Heads.

-- the group to which an entry leads, and the one to which a gate leads

abbrev pub group_of : Entry → Group
group_of entry = record { head = entry.child; stamp = entry.stamp }

abbrev pub group_in : CellValue → Group
group_in cell = record { head = (way_in cell).root; stamp = (way_in cell).stamp }

-- the head of a group, with what is held besides it where the last spares are these
abbrev pub head_at : World → Group → (last before : Option ℕ) → Head
head_at w group last before = record {
  at = group.head;
  first = first_behind group.stamp (block_in (w.cells group.head));
  second = second_behind w group.stamp (first_behind group.stamp (block_in (w.cells group.head)));
  fresh = held_for (block_in (w.cells group.head)) last;
  top = held_for (block_in (w.cells group.head)) before;
}

-- and where it is full
abbrev pub full_at : World → Group → (last before : Option ℕ) → Head
full_at w group last before = record {
  at = group.head;
  first = second_behind w group.stamp (Some group.head);
  second = second_behind w group.stamp (second_behind w group.stamp (Some group.head));
  fresh = last;
  top = before;
}

-- where its cells are, without it and with it

abbrev pub places_behind : Head → List (Option ℕ)
places_behind head = head.first ∷ head.second ∷ head.fresh ∷ head.top ∷ []

abbrev pub places_of : Head → List (Option ℕ)
places_of head = Some head.at ∷ places_behind head

-- The steps to it.

abbrev pub down_to : (parent place : ℕ) → Head → RowStep
down_to parent place head = row_step.Down parent place head.at head.first head.second head.fresh

abbrev pub in_to : (map gate : ℕ) → Head → RowStep
in_to map gate head = row_step.EnterTree map gate head.at head.first head.second head.fresh head.top

-- Which group a row goes down to.

-- the cell has a directory of these dimensions, and the actor has a row of them
pub record CanPick (h : List Dimension) (a : ActorValue) (cell : CellValue) : Type 0 where
  pub directory : is_leaf (block_in cell).body ≡ false
  pub body : IsBodyOf h (block_in cell).body
  pub some : 0 < length (entries_in (block_in cell).body)
  pub row : Row
  pub row_is : row_of a.errand ≡ Some row
  pub valid : IsRowOf h row

-- the entry at this place comes first for a row, and leads to the group
pub record IsPicked (h : List Dimension) (row : Row) (entries : List Entry) (place : ℕ) (group : Group) : Type 0 where
  pub entry : Entry
  pub place_is : pick_place h row.at (map (λ (e : Entry). e.set) entries) ≡ Some place
  pub entry_at : slice_get entries place ≡ Some entry
  pub group_is : group ≡ group_of entry

-- so it does for the row of an actor
abbrev pub PicksFor : List Dimension → ActorValue → List Entry → (place : ℕ) → Group → Type 0
PicksFor h a entries place group = (row : Row) → row_of a.errand ≡ Some row → IsPicked h row entries place group

-- Taking.

-- no rank above that of blocks is told
abbrev pub AreUpToBlocks : List (ℕ × Option ℕ) → Type 0
AreUpToBlocks ranks = (k r : ℕ) → value_of ranks k ≡ some (Some r) → r ≤ free_rank

-- the cells of these numbers are there, and none of them is held or stands twice
pub record CanTake (f : Floor) (p : Player) (ys : List ℕ) : Type 0 where
  pub within : Each (λ y. y < cell_count f.table) ys
  pub apart : AreDifferent ys
  pub other : Each (λ y. value_of p.seat.view.held y ≡ none) ys

abbrev pub at_blocks : List ℕ → List (ℕ × Option ℕ)
at_blocks ys = map (λ (y : ℕ). (y, Some free_rank)) ys

-- the cells of these numbers are held behind the others, each with the rank of blocks
pub record TakesAll (ys : List ℕ) (was now : Player) : Type 0 where
  pub same : IsSameActor was now
  pub ranks : now.seat.ranks ≡ was.seat.ranks ++ at_blocks ys
  pub more : List (ℕ × Cell)
  pub numbers_are : numbers_of more ≡ ys
  pub held : now.seat.view.held ≡ was.seat.view.held ++ more

-- The actor holds the cells of a row's step, which is prepared in every state that the seat may be in.
pub record IsToMake (f : Floor) (p : Player) (step : RowStep) : Type 0 where
  pub seated : IsSeated f p
  pub held : numbers_of p.seat.view.held ≡ numbers (row_places step)
  pub prepared : (s : Setting) (w : World) → IsAround f p s w → IsRowPrepared s w p.number step
  pub kept : IsKeptBy f.hierarchy (row_kind step) (λ s w n. ⊤) (λ a was now. ⊤) (row_places step) p

-- What is seen of a state by one who looks at one cell at a time: its cells and actors by their numbers.
use Rattle.std.specs.Prelude.{ℕ, ◌≡◌, ltb, List, get_or, Option, Some, None, is_some, option_map}
use Rattle.dim_hierarchy.specs.Dimension.{Dimension}
use Rattle.mapping_table.specs.declared.place.Where.{Where}
use Rattle.mapping_table.specs.declared.place.Where.TheVariants as where_is
use Rattle.core_image.specs.shard_store.specs.declared.gate.Gate.{Gate}
use Rattle.core_image.specs.tree_shape.specs.PageLines.{CellBlocks}
use Rattle.core_image.specs.volap_cell.specs.{Cells.{CellValue, FreeCell, GateCell, block_in, cell_of, no_way}, Opening.IsFresh, Setting.Setting, Steps.Inv, Values.{ActorValue, actor_of}, World.World, declared.actor.Actor.Actor, declared.cell.Cell.Cell}

-- what stands in each cell, and each actor; nothing where it is out, and nothing past the last one
pub record StateValue : Type 0 where
  pub cells : ℕ → Option CellValue
  pub actors : ℕ → Option ActorValue

-- the same of vectors of cells and actors
abbrev pub state_of : List (Option Cell) → List (Option Actor) → StateValue
state_of cells actors = record { cells = λ y. option_map cell_of (get_or cells y None); actors = λ a. option_map actor_of (get_or actors a None) }

-- a place where nothing stands counts as a free cell
abbrev pub or_free : Option CellValue → CellValue
or_free None = FreeCell
or_free (Some c) = c

abbrev pub cells_in : StateValue → ℕ → CellValue
cells_in state y = or_free (state.cells y)

-- an actor is the one that is there; where none is, it has done nothing
abbrev pub IsActorOf : Option ActorValue → ℕ → ActorValue → Type 0
IsActorOf None a x = IsFresh x.setting a x
IsActorOf (Some there) a x = there ≡ x

-- the cells and actors are those of a world
pub record IsSeenOf (state : StateValue) (w : World) : Type 0 where
  pub cells : cells_in state ≡ w.cells
  pub actors : (a : ℕ) → IsActorOf (state.actors a) a (w.actors a)

-- they are those of one that meets the invariant, over these dimensions
pub record IsValid (h : List Dimension) (state : StateValue) : Type 0 where
  pub setting : Setting
  pub hierarchy : setting.hierarchy ≡ h
  pub world : World
  pub is : IsSeenOf state world
  pub inv : Inv setting world

-- something stands in so many cells and in no other
abbrev pub HasCells : ℕ → StateValue → Type 0
HasCells many state = (y : ℕ) → is_some (state.cells y) ≡ ltb y many

-- the blocks of so many cells
abbrev pub blocks_of : ℕ → (ℕ → CellValue) → CellBlocks
blocks_of many cells = record { count = many; block = λ y. block_in (cells y) }

-- the gate of a cell; one with nothing where it has none
abbrev pub gate_in : CellValue → Gate
gate_in (GateCell g) = g
gate_in _ = no_way

-- the gate to which a table leads, zero where it leads elsewhere
abbrev pub gate_there : Option Where → ℕ
gate_there (Some (where_is.Gate gate)) = gate
gate_there _ = 0

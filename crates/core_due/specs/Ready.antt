-- What is due can be made: what its step asks is so in every state that meets the invariant, and a state that one thread holds has its
-- cells.
use Rattle.std.specs.{Option.IfSome, Prelude.{ℕ, ◌≡◌, ◌≢◌, ◌<◌, ⊤, true, false, List, length, Option, Some, None}}
use Rattle.core_due.specs.{Due.{is_empty, led_to, may_enter}, Look.cell_at, Rows.row_of, Wants.meets, declared.parts.PartDue.PartDue}
use Rattle.core_due.specs.declared.parts.PartDue.TheVariants.{Descends, Enters, Part, Tree}
use Rattle.core_steps.specs.{Parts.{part_asks, part_places}, Places.{numbers, values_at}, Rows.{row_asks, row_places}, Steps.MayMake, Trees.{tree_asks, tree_places}, declared.parts.PartStep.PartStep, declared.rows.RowStep.RowStep, declared.trees.TreeStep.TreeStep}
use Rattle.core_steps.specs.declared.rows.RowStep.TheVariants as row_step
use Rattle.core_steps.specs.declared.trees.TreeStep.TheVariants as tree
use Rattle.dc_node.specs.Block.{IsBodyOf, is_leaf}
use Rattle.dim_hierarchy.specs.{Dimension.Dimension, Rows.IsRowOf}
use Rattle.list_words.specs.Counts.{Each}
use Rattle.mapping_table.specs.declared.place.Where.TheVariants as where_is
use Rattle.row_ledger.specs.declared.settings.Use.{Use}
use Rattle.core_steps.specs.volap_cell.specs.{Cells.{CellValue, block_in}, Setting.{Setting, actor_count, cell_count, map_cell}, State.{AreDifferent, IsWorldOf}, Steps.Inv, Values.{ActorValue, ErrandValue, OfRow}, World.{World, MustKeep}, declared.cell.Cell.Cell, declared.errand.RowErrand.RowErrand, declared.kind.Kind.Kind, declared.state.State.State}
use Rattle.core_steps.specs.volap_cell.specs.declared.errand.Way.TheVariants as way

-- A state that one thread holds.

-- it is this one, about this, and meets the invariant
pub record IsStateOf (h : List Dimension) (with : Use) (state : State) (s : Setting) (w : World) : Type 0 where
  pub hierarchy : s.hierarchy ≡ h
  pub servers : s.servers ≡ with.servers
  pub workers : s.workers ≡ with.workers
  pub count : length state.actors.items ≡ actor_count s
  pub places : length state.cells.items ≡ cell_count s
  pub is : IsWorldOf state.cells.items state.actors.items w
  pub inv : Inv s w

-- nobody but this actor must keep the cell
abbrev pub IsFree : World → ℕ → ℕ → Type 0
IsFree w n y = (a : ℕ) → a ≢ n → ¬ MustKeep (w.actors a) y

-- Rows whose way is still to be picked.

-- the actor's row comes in at the gate, to which the worker's table leads
pub record IsEntering (s : Setting) (w : World) (n map gate : ℕ) : Type 0 where
  pub e : ErrandValue
  pub r : RowErrand
  pub height : ℕ
  pub errand : (w.actors n).errand ≡ Some e
  pub row : e.task ≡ OfRow r
  pub way_is : r.way ≡ way.Before (Some height) true
  pub map_is : map ≡ map_cell s e.worker
  pub leads : led_to s w e ≡ Some (where_is.Gate gate)
  pub may : may_enter (w.cells gate) (w.actors n) ≡ true

-- it goes down from the block at which it is carried, which is a directory
pub record IsDescending (w : World) (n block : ℕ) : Type 0 where
  pub e : ErrandValue
  pub r : RowErrand
  pub gate : ℕ
  pub errand : (w.actors n).errand ≡ Some e
  pub row : e.task ≡ OfRow r
  pub way_is : r.way ≡ way.Carried gate block
  pub directory : is_leaf (block_in (w.cells block)).body ≡ false

-- Steps, of whatever state they are due in.

-- the block that a step wants free: that a query visits
abbrev pub wanted_by : TreeStep → Option ℕ
wanted_by (tree.VisitBlock block) = Some block
wanted_by step = None

-- or the head to which a row comes
abbrev pub head_of : RowStep → ℕ
head_of (row_step.Down parent place child first second fresh) = child
head_of (row_step.EnterTree map gate root first second fresh top) = root

abbrev pub IsFreeFor : World → ℕ → TreeStep → Type 0
IsFreeFor w n step = IfSome (wanted_by step) (IsFree w n)

-- a cell is there, and nobody but the actor must keep it, at least where what its step wants is free
pub record IsLendable (s : Setting) (w : World) (n : ℕ) (If : Type 0) (y : ℕ) : Type 0 where
  pub within : y < cell_count s
  pub free : If → IsFree w n y

-- the actor is there, the cells at these places can be lent to it, each once, and they and it are as a step asks
pub record IsPrepared (s : Setting) (w : World) (n : ℕ) (row : List (Option ℕ)) (Asks : List (Option CellValue) → ActorValue → Type 0) (If : Type 0) : Type 0 where
  pub cells : Each (IsLendable s w n If) (numbers row)
  pub apart : AreDifferent (numbers row)
  pub actor : n < actor_count s
  pub asked : Asks (values_at w.cells row) (w.actors n)

abbrev pub IsTreePrepared : Setting → World → ℕ → TreeStep → Type 0
IsTreePrepared s w n step = IsPrepared s w n (tree_places step) (tree_asks step s.hierarchy) (IsFreeFor w n step)

abbrev pub IsRowPrepared : Setting → World → ℕ → RowStep → Type 0
IsRowPrepared s w n step = IsPrepared s w n (row_places step) (row_asks step s.hierarchy) (IsFree w n (head_of step))

abbrev pub IsStepPrepared : Setting → World → ℕ → PartStep → Type 0
IsStepPrepared s w n step = IsPrepared s w n (part_places step) (part_asks step s.hierarchy) ⊤

-- what is due for a part
abbrev pub IsPartPrepared : Setting → World → ℕ → PartDue → Type 0
IsPartPrepared s w n (Part step) = IsStepPrepared s w n step
IsPartPrepared s w n (Tree step) = IsTreePrepared s w n step
IsPartPrepared s w n (Enters map gate) = IsEntering s w n map gate
IsPartPrepared s w n (Descends block) = IsDescending w n block

-- there is such a step, which is prepared where what it wants is free, as it is where its kind can be made
abbrev pub HasPrepared : Setting → World → ℕ → Kind → Option RowStep → Type 0
HasPrepared s w n kind found = (step : RowStep) × (found ≡ Some step) × IsRowPrepared s w n step × (meets s w n kind ≡ true → IsFree w n (head_of step))

-- Parts.

-- what is due asks this, of whatever state it is due in

abbrev pub IsStepAsked : Setting → World → ℕ → PartStep → Type 0
IsStepAsked s w n step = part_asks step s.hierarchy (values_at w.cells (part_places step)) (w.actors n)

abbrev pub IsAsked : Setting → World → ℕ → PartDue → Type 0
IsAsked s w n (Part step) = IsStepAsked s w n step
IsAsked s w n (Tree step) = tree_asks step s.hierarchy (values_at w.cells (tree_places step)) (w.actors n)
IsAsked s w n (Enters map gate) = IsEntering s w n map gate
IsAsked s w n (Descends block) = IsDescending w n block

-- and a state that one thread holds has the cells

abbrev pub MayMakePart : List Dimension → State → ℕ → PartStep → Type 0
MayMakePart h state n step = MayMake h state n (part_places step) (part_asks step h) (λ s v m. ⊤)

abbrev pub MayMakeTree : List Dimension → State → ℕ → TreeStep → Type 0
MayMakeTree h state n step = MayMake h state n (tree_places step) (tree_asks step h) (λ s v m. ⊤)

abbrev pub MayMakeRow : List Dimension → State → ℕ → RowStep → Type 0
MayMakeRow h state n step = MayMake h state n (row_places step) (row_asks step h) (λ s v m. ⊤)

abbrev pub IsPartReady : List Dimension → State → World → ℕ → PartDue → Type 0
IsPartReady h state w n (Part step) = MayMakePart h state n step
IsPartReady h state w n (Tree step) = IsFreeFor w n step → MayMakeTree h state n step
IsPartReady h state w n _ = ⊤

-- Rows whose way is picked.

-- there is such a step, and the state has its cells where what it wants is free
abbrev pub HasReady : List Dimension → State → World → ℕ → Option RowStep → Type 0
HasReady h state w n found = (step : RowStep) × (found ≡ Some step) × (IsFree w n (head_of step) → MayMakeRow h state n step)

-- the block and the row of the actor are of the dimensions
pub record CanDescend (h : List Dimension) (cells : List (Option Cell)) (a : ActorValue) (block : ℕ) : Type 0 where
  pub body : IsBodyOf h (block_in (cell_at cells block)).body
  pub row : IfSome (row_of a.errand) (IsRowOf h)

-- Actors without a part.

-- it has no job either, and there is something in its purse
pub record HasSpares (a : ActorValue) : Type 0 where
  pub no_errand : a.errand ≡ None
  pub no_job : a.job ≡ None
  pub some : is_empty a.purse ≡ false

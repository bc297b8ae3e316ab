-- The step of a row whose way is picked: down from the block at which it is carried, by the entry that comes first for it; or in at a
-- gate. Where the head that it comes to is full, the next two blocks behind that are held too, and the cells of the last spares.
use Rattle.std.specs.Prelude.{ℕ, ◌==◌, if◌then◌else◌, List, map, slice_get, Option, Some, None, option_map, option_and_then}
use Rattle.cell_stock.specs.declared.purse.Spare.{Spare}
use Rattle.core_due.specs.Spares.{last_spare, spare_before}
use Rattle.core_steps.specs.declared.rows.RowStep.{RowStep}
use Rattle.core_steps.specs.declared.rows.RowStep.TheVariants as row_step
use Rattle.dc_node.specs.{Block.{entries_in, is_full}, declared.block.Block.Block, declared.entry.Entry.Entry}
use Rattle.dim_hierarchy.specs.{Dimension.Dimension, declared.row.Row.Row}
use Rattle.link_descent.specs.Pick.{pick_place}
use Rattle.core_steps.specs.shard_store.specs.declared.gate.Gate.{Gate}
use Rattle.core_steps.specs.volap_cell.specs.{Cells.{CellValue, GateCell, block_in}, Values.{ActorValue, ErrandValue, OfRow, TaskValue}, World.World}

-- Behind a head.

-- the next block, unless this one has the stamp that is expected of the last one
abbrev pub next_behind : (expected : ℕ) → Block → Option ℕ
next_behind expected block = if block.stamp == expected then None else block.right

-- where the head is full, its division looks at the next block
abbrev pub first_behind : (expected : ℕ) → Block → Option ℕ
first_behind expected head = if is_full head.body then next_behind expected head else None

-- and at the one behind that
abbrev pub second_behind : World → (expected : ℕ) → Option ℕ → Option ℕ
second_behind w expected first = option_and_then (λ y. next_behind expected (block_in (w.cells y))) first

-- Spares.

-- one is held for a new block where the head is full
abbrev pub held_for : (head : Block) → Option ℕ → Option ℕ
held_for head cell = if is_full head.body then cell else None

-- Down.

-- by the entry at a place of the parent
abbrev pub down_by : World → List Spare → (parent place : ℕ) → Entry → RowStep
down_by w purse parent place entry =
    row_step.Down parent place entry.child (first_behind entry.stamp (block_in (w.cells entry.child)))
    (second_behind w entry.stamp (first_behind entry.stamp (block_in (w.cells entry.child)))) (held_for (block_in (w.cells entry.child)) (last_spare purse))

-- by the one that comes first for the row, if there is one
abbrev pub down_for : List Dimension → World → List Spare → (parent : ℕ) → Row → List Entry → Option RowStep
down_for h w purse parent row entries =
    option_and_then (λ place. option_map (down_by w purse parent place) (slice_get entries place)) (pick_place h row.at (map (λ (e : Entry). e.set) entries))

-- the row that an actor's part is about

abbrev pub row_in : TaskValue → Option Row
row_in (OfRow r) = Some r.row
row_in _ = None

abbrev pub row_of : Option ErrandValue → Option Row
row_of errand = option_and_then (λ (e : ErrandValue). row_in e.task) errand

-- an actor's row goes down from the block
abbrev pub descent_of : List Dimension → World → ActorValue → (block : ℕ) → Option RowStep
descent_of h w a block = option_and_then (λ row. down_for h w a.purse block row (entries_in (block_in (w.cells block)).body)) (row_of a.errand)

-- In.

-- the gate in a cell
abbrev pub gate_in : CellValue → Option Gate
gate_in (GateCell gate) = Some gate
gate_in _ = None

-- to the root of its tree
abbrev pub in_by : World → List Spare → (map gate_at : ℕ) → Gate → RowStep
in_by w purse map gate_at gate =
    row_step.EnterTree map gate_at gate.root (first_behind gate.stamp (block_in (w.cells gate.root)))
    (second_behind w gate.stamp (first_behind gate.stamp (block_in (w.cells gate.root))))
    (held_for (block_in (w.cells gate.root)) (last_spare purse)) (held_for (block_in (w.cells gate.root)) (spare_before purse))

-- an actor with these spares comes in at the gate
abbrev pub entrance_of : World → List Spare → (map gate : ℕ) → Option RowStep
entrance_of w purse map gate = option_map (in_by w purse map gate) (gate_in (w.cells gate))

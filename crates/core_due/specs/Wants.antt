-- What a step waits for that is due: the block that it wants is free, and the inserts have left the tree that its job waits for.
use Rattle.std.specs.{Option.option_map_or, Prelude.{ℕ, ◌==◌, ◌&&◌, ◌||◌, Bool, true, false, not, Option, Some, None, option_map, option_and_then, List, [], ◌∷◌, map, slice_get}}
use Rattle.core_due.specs.Due.{all_below, led_to}
use Rattle.dc_node.specs.{Block.entries_in, declared.block.Block.Block, declared.entry.Entry.Entry, declared.todo.Item.Item}
use Rattle.dim_hierarchy.specs.{Dimension.Dimension, declared.row.Row.Row}
use Rattle.link_descent.specs.Pick.{pick_place}
use Rattle.mapping_table.specs.declared.place.Where.{Where}
use Rattle.mapping_table.specs.declared.place.Where.TheVariants as where_is
use Rattle.core_steps.specs.volap_cell.specs.{Cells.{active_in, block_in, way_in}, Errands.{RowWay, block_at, way_of}, Setting.{Setting, actor_count}, Values.{ActorValue, ErrandValue, TaskValue, OfRow, Read, JobValue, StageValue, IsFrozen}, World.World, declared.errand.Way.Way, declared.kind.Kind.Kind}
use Rattle.core_steps.specs.volap_cell.specs.declared.errand.Way.TheVariants as way
use Rattle.core_steps.specs.volap_cell.specs.declared.kind.Kind.TheVariants as kind

-- Blocks that are wanted.

-- the child that comes first for a row
abbrev pub child_of : List Dimension → Row → Block → Option ℕ
child_of h row block =
    option_and_then (λ place. option_map (λ (e : Entry). e.child) (slice_get (entries_in block.body) place))
    (pick_place h row.at (map (λ (e : Entry). e.set) (entries_in block.body)))

-- the root of the tree of the gate where the shard is
abbrev pub root_at : World → Option Where → Option ℕ
root_at w (Some (where_is.Gate gate)) = Some (way_in (w.cells gate)).root
root_at w _ = None

-- the block that was noted last
abbrev pub last_noted : List Item → Option ℕ
last_noted [] = None
last_noted (item ∷ []) = Some item.cell
last_noted (item ∷ next ∷ items) = last_noted (next ∷ items)

-- of a row that is carried at a block
abbrev pub child_wanted : List Dimension → World → Row → Way → Option ℕ
child_wanted h w row (way.Carried gate block) = child_of h row (block_in (w.cells block))
child_wanted h w row _ = None

-- of a part that is a row's
abbrev pub wanted_down : List Dimension → World → TaskValue → Option ℕ
wanted_down h w (OfRow r) = child_wanted h w r.row r.way
wanted_down h w _ = None

-- of a part that has read its gate
abbrev pub wanted_visit : TaskValue → Option ℕ
wanted_visit (Read r) = last_noted r.items
wanted_visit _ = None

-- of a part, by the kind of its step
abbrev pub wanted_of : Setting → World → ErrandValue → Kind → Option ℕ
wanted_of s w e kind.EnterTree = root_at w (led_to s w e)
wanted_of s w e kind.Down = wanted_down s.hierarchy w e.task
wanted_of s w e kind.BlockVisit = wanted_visit e.task
wanted_of s w e _ = None

-- the block that a step of this kind holds besides the one at which the actor carries its row, and at which nobody may carry one
abbrev pub wanted : Setting → World → ActorValue → Kind → Option ℕ
wanted s w a k = option_and_then (λ e. wanted_of s w e k) a.errand

-- Who holds a block.

-- the row that is on its way is carried at this block
abbrev pub is_carried_at : ℕ → Option RowWay → Bool
is_carried_at y carried = option_map_or (λ (r : RowWay). option_map_or (λ block. block == y) (block_at r.place) false) carried false

-- nobody but this actor carries a row at the block
abbrev pub is_block_free : Setting → World → ℕ → ℕ → Bool
is_block_free s w n y = all_below (actor_count s) (λ a. a == n || not (is_carried_at y (way_of (w.actors a).errand)))

-- What else a step waits for.

-- the gate whose tree a job waits for
abbrev pub gate_awaited : StageValue → Option ℕ
gate_awaited (IsFrozen f) = Some f.gate
gate_awaited _ = None

-- no insert is in that tree
abbrev pub is_drained : World → Option JobValue → Bool
is_drained w job = option_map_or (λ (j : JobValue). option_map_or (λ gate. active_in (w.cells gate) == 0) (gate_awaited j.stage) true) job true

-- the actor can make a step of the kind that is due
abbrev pub meets : Setting → World → ℕ → Kind → Bool
meets s w n k = option_map_or (is_block_free s w n) (wanted s w (w.actors n) k) true && is_drained w (w.actors n).job

-- What is due for an actor that is at a part, with the cells of the step; and of which kind that step is.
use Rattle.std.specs.Prelude.{ℕ, Bool, true, false, if◌then◌else◌, Option, Some, None}
use Rattle.core_due.specs.{Due.{is_empty, led_to, may_enter}, Wants.last_noted, declared.parts.PartDue.PartDue}
use Rattle.core_due.specs.declared.parts.PartDue.TheVariants.{Descends, Enters, Part, Tree}
use Rattle.core_steps.specs.{Parts.{part_kind, part_may_fail}, Trees.{tree_kind, tree_may_fail}, declared.parts.PartStep.PartStep}
use Rattle.core_steps.specs.declared.parts.PartStep.TheVariants as part
use Rattle.core_steps.specs.declared.trees.TreeStep.TheVariants as tree
use Rattle.dc_node.specs.Block.{is_leaf}
use Rattle.mapping_table.specs.declared.place.Where.{Where}
use Rattle.mapping_table.specs.declared.place.Where.TheVariants as where_is
use Rattle.core_steps.specs.volap_cell.specs.{Cells.{CellValue, block_in}, Setting.{Setting, desk_cell, map_cell}, Values.{ActorValue, ErrandValue, OfRow, Read, ReadingValue, TaskValue, Unread}, World.World, declared.errand.Way.Way, declared.kind.Kind.Kind}
use Rattle.core_steps.specs.volap_cell.specs.declared.errand.Way.TheVariants as way
use Rattle.core_steps.specs.volap_cell.specs.declared.kind.Kind.TheVariants as kind

-- Before a gate.

-- a part that hasn't passed its gate goes to where its shard is; there this is due

abbrev pub due_at : (map desk : ℕ) → Option Where → (ℕ → PartDue) → Option PartDue
due_at map desk None at_gate = None
due_at map desk (Some (where_is.Gate gate)) at_gate = Some (at_gate gate)
due_at map desk (Some (where_is.Split plane left right)) at_gate = Some (Part (part.Expand map desk))
due_at map desk (Some (where_is.Moved to)) at_gate = Some (Part (part.Forward map desk))

abbrev pub led_due : Setting → World → ErrandValue → (ℕ → PartDue) → Option PartDue
led_due s w e at_gate = due_at (map_cell s e.worker) (desk_cell s e.server) (led_to s w e) at_gate

-- at its gate a row's height is looked up, its purse is filled by that, and it comes in
abbrev pub gate_due : (map gate_at : ℕ) → (gate : CellValue) → ActorValue → (height : Option ℕ) → (filled : Bool) → PartDue
gate_due map gate_at gate a None filled = Part (part.LookUp map gate_at)
gate_due map gate_at gate a (Some height) false = Tree tree.Refill
gate_due map gate_at gate a (Some height) true = if may_enter gate a then Enters map gate_at else Tree (tree.EnterQueue map gate_at)

-- a query reads its gate
abbrev pub unread_due : Setting → World → ErrandValue → Option PartDue
unread_due s w e = led_due s w e (λ gate. Tree (tree.ReadGate (map_cell s e.worker) gate))

-- Behind a gate.

-- a row that is carried is put in a leaf, or goes further down
abbrev pub carried_due : World → ℕ → PartDue
carried_due w block = if is_leaf (block_in (w.cells block)).body then Tree (tree.PutInLeaf block) else Descends block

-- a part ends with the desk, and with the gate at which it is pinned
abbrev pub ending : Setting → ErrandValue → Option ℕ → PartStep
ending s e None = part.FinishPart (desk_cell s e.server)
ending s e (Some gate) = part.FinishPinned gate (desk_cell s e.server)

-- what is left of the purse is given back before a row's part ends
abbrev pub placed_due : Setting → ActorValue → ErrandValue → PartDue
placed_due s a e = if is_empty a.purse then Part (ending s e None) else Tree tree.GiveBack

-- a query visits the blocks that it has noted, and then ends

abbrev pub visit_due : Setting → ErrandValue → (pin noted : Option ℕ) → PartDue
visit_due s e pin None = Part (ending s e pin)
visit_due s e pin (Some block) = Tree (tree.VisitBlock block)

abbrev pub read_due : Setting → ErrandValue → ReadingValue → PartDue
read_due s e r = visit_due s e r.pin (last_noted r.items)

-- All of it.

-- by how far its row has come
abbrev pub row_due : Setting → World → ActorValue → ErrandValue → Way → Option PartDue
row_due s w a e (way.Before height filled) = led_due s w e (λ gate. gate_due (map_cell s e.worker) gate (w.cells gate) a height filled)
row_due s w a e (way.Carried gate block) = Some (carried_due w block)
row_due s w a e (way.Put gate) = Some (Tree (tree.LeaveTree gate))
row_due s w a e way.Placed = Some (placed_due s a e)

-- by what the part asks for

abbrev pub task_due : Setting → World → ActorValue → ErrandValue → TaskValue → Option PartDue
task_due s w a e (OfRow r) = row_due s w a e r.way
task_due s w a e (Unread f) = unread_due s w e
task_due s w a e (Read r) = Some (read_due s e r)

abbrev pub part_due : Setting → World → ActorValue → ErrandValue → Option PartDue
part_due s w a e = task_due s w a e e.task

-- the kind of step that it is
abbrev pub due_kind : PartDue → Kind
due_kind (Part step) = part_kind step
due_kind (Tree step) = tree_kind step
due_kind (Enters map gate) = kind.EnterTree
due_kind (Descends block) = kind.Down

-- whether it may find no memory
abbrev pub due_may_fail : PartDue → Bool
due_may_fail (Part step) = part_may_fail step
due_may_fail (Tree step) = tree_may_fail step
due_may_fail _ = false

-- Of which kind the step is that is due for a part.
use Rattle.std.proofs.Common.{◌≡◌, ℕ, Bool, true, false, List, [], ◌∷◌, Option, Some, None, refl, ap}
use Rattle.std.specs.Prelude.{if◌then◌else◌, option_map}
use Rattle.core_due.specs.{Due.{errand_kind, gate_kind, is_empty, kind_by, led_to, may_enter, read_kind, row_kind, task_kind}, Parts.{due_at, due_kind, ending, gate_due, part_due, row_due, task_due, visit_due}, Wants.last_noted, declared.parts.PartDue.PartDue}
use Rattle.core_due.specs.declared.parts.PartDue.TheVariants.{Descends, Enters, Part, Tree}
use Rattle.core_steps.specs.Parts.{part_kind}
use Rattle.core_steps.specs.declared.trees.TreeStep.TheVariants as tree
use Rattle.dc_node.specs.{Block.is_leaf, declared.todo.Item.Item}
use Rattle.mapping_table.specs.declared.place.Where.{Where}
use Rattle.mapping_table.specs.declared.place.Where.TheVariants as where_is
use Rattle.core_steps.specs.volap_cell.specs.{Cells.{CellValue, block_in}, Setting.{Setting, desk_cell, map_cell}, Values.{ActorValue, ErrandValue, OfRow, Read, TaskValue, Unread}, World.World, declared.errand.Way.Way, declared.kind.Kind.Kind}
use Rattle.core_steps.specs.volap_cell.specs.declared.errand.Way.TheVariants as way
use Rattle.core_steps.specs.volap_cell.specs.declared.kind.Kind.TheVariants as kind

either-kind : (b : Bool) (x y : PartDue) → due_kind (if b then x else y) ≡ (if b then due_kind x else due_kind y)
either-kind true x y = refl
either-kind false x y = refl

led-kind : (map desk : ℕ) (led : Option Where) (at_gate : ℕ → PartDue) (kind_at : ℕ → Kind) → ((gate : ℕ) → due_kind (at_gate gate) ≡ kind_at gate)
    → option_map due_kind (due_at map desk led at_gate) ≡ kind_by led kind_at
led-kind map desk None at_gate kind_at same = refl
led-kind map desk (Some (where_is.Gate gate)) at_gate kind_at same = ap Some (same gate)
led-kind map desk (Some (where_is.Split plane left right)) at_gate kind_at same = refl
led-kind map desk (Some (where_is.Moved to)) at_gate kind_at same = refl

gate-kind : (map at : ℕ) (gate : CellValue) (a : ActorValue) (height : Option ℕ) (filled : Bool) → due_kind (gate_due map at gate a height filled) ≡ gate_kind gate a height filled
gate-kind map at gate a None filled = refl
gate-kind map at gate a (Some height) false = refl
gate-kind map at gate a (Some height) true = either-kind (may_enter gate a) (Enters map at) (Tree (tree.EnterQueue map at))

ending-kind : (s : Setting) (e : ErrandValue) (pin : Option ℕ) → part_kind (ending s e pin) ≡ kind.FinishPart
ending-kind s e None = refl
ending-kind s e (Some gate) = refl

read-kind : (s : Setting) (e : ErrandValue) (pin : Option ℕ) (items : List Item) → due_kind (visit_due s e pin (last_noted items)) ≡ read_kind items
read-kind s e pin [] = ending-kind s e pin
read-kind s e pin (item ∷ []) = refl
read-kind s e pin (item ∷ next ∷ items) = read-kind s e pin (next ∷ items)

module _ (s : Setting) (w : World) (a : ActorValue) (e : ErrandValue) where
  row-kind : (on : Way) → option_map due_kind (row_due s w a e on) ≡ row_kind w (led_to s w e) a on
  row-kind (way.Before height filled) =
      led-kind (map_cell s e.worker) (desk_cell s e.server) (led_to s w e) (λ gate. gate_due (map_cell s e.worker) gate (w.cells gate) a height filled) (λ gate. gate_kind (w.cells gate) a height filled)
      (λ gate. gate-kind (map_cell s e.worker) gate (w.cells gate) a height filled)
  row-kind (way.Carried gate block) = ap Some (either-kind (is_leaf (block_in (w.cells block)).body) (Tree (tree.PutInLeaf block)) (Descends block))
  row-kind (way.Put gate) = refl
  row-kind way.Placed = ap Some (either-kind (is_empty a.purse) (Part (ending s e None)) (Tree tree.GiveBack))

  task-kind : (t : TaskValue) → option_map due_kind (task_due s w a e t) ≡ task_kind w (led_to s w e) a t
  task-kind (OfRow r) = row-kind r.way
  task-kind (Unread f) =
      led-kind (map_cell s e.worker) (desk_cell s e.server) (led_to s w e) (λ gate. Tree (tree.ReadGate (map_cell s e.worker) gate)) (λ gate. kind.GateRead) (λ gate. refl)
  task-kind (Read r) = ap Some (read-kind s e r.pin r.items)

  pub part-kind : option_map due_kind (part_due s w a e) ≡ errand_kind s w a e
  part-kind = task-kind e.task

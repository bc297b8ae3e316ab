-- What is due for a part is prepared: by what the part asks for, and how far it has come.
use Rattle.std.proofs.Common.{◌≡◌, ◌∙◌, ℕ, inl, Bool, true, false, List, [], ◌∷◌, Option, Some, None, refl, sym, ap, subst, arith}
use Rattle.std.specs.{Option.IfSome}
use Rattle.core_due.specs.{Due.{is_empty, led_to, may_enter}, Parts.{due_at, ending, gate_due, part_due, row_due, task_due, visit_due}, Ready.{IsPartPrepared}, Wants.last_noted, declared.parts.PartDue.PartDue}
use Rattle.core_due.specs.declared.parts.PartDue.TheVariants.{Descends, Enters, Part, Tree}
use Rattle.core_due.proofs.{DueCases.{either, led}, LastItems.{ends-in, noted-at}, StepsPrepared.{ending-prepared, enter_queue-prepared, expand-prepared, forward-prepared, give_back-prepared, leave_tree-prepared, look_up-prepared, put_in_leaf-prepared, read_gate-prepared, refill-prepared, visit-prepared}}
use Rattle.core_steps.specs.core_shard.specs.Due.{HasEnd, IsOut}
use Rattle.core_steps.specs.declared.trees.TreeStep.TheVariants as tree
use Rattle.dc_node.specs.{Block.is_leaf, declared.todo.Item.Item}
use Rattle.mapping_table.specs.declared.place.Where.TheVariants as where_is
use Rattle.core_steps.specs.volap_cell.specs.{Cells.block_in, Errands.place_of, Ghost.Ghost, Invariant.InvWith, Setting.{Setting, desk_cell, map_cell}, ShardKinds.pin_of, Values.{ErrandValue, OfRow, Read, ReadingValue, TaskValue, Unread}, View.view, World.World, declared.errand.RowErrand.RowErrand, declared.errand.Way.Way}
use Rattle.core_steps.specs.volap_cell.specs.declared.errand.Way.TheVariants as way

module _ (s : Setting) (w : World) (g : Ghost) (i : InvWith s (view s w) g) (n : ℕ) (e : ErrandValue) (errand : (w.actors n).errand ≡ Some e) where
  abbrev Is : PartDue → Type 0
  Is = IsPartPrepared s w n

  -- where its shard is
  at-shard : IsOut e.task → (at_gate : ℕ → PartDue) → ((gate : ℕ) → led_to s w e ≡ Some (where_is.Gate gate) → Is (at_gate gate)) → IfSome (due_at (map_cell s e.worker) (desk_cell s e.server) (led_to s w e) at_gate) Is
  at-shard out at_gate prepared = led Is (map_cell s e.worker) (desk_cell s e.server) at_gate (led_to s w e) prepared (expand-prepared s w g i n e errand out) (forward-prepared s w g i n e errand out)

  -- A row.

  module _ (r : RowErrand) (row : e.task ≡ OfRow r) where
    at-gate : (height : Option ℕ) (filled : Bool) → r.way ≡ way.Before height filled → (gate : ℕ) → led_to s w e ≡ Some (where_is.Gate gate)
        → Is (gate_due (map_cell s e.worker) gate (w.cells gate) (w.actors n) height filled)
    at-gate None filled is gate leads = look_up-prepared s w g i n e errand gate leads r filled row is
    at-gate (Some height) false is gate leads = refill-prepared s w g i n e errand r row height is
    at-gate (Some height) true is gate leads = either Is (may_enter (w.cells gate) (w.actors n)) (Enters (map_cell s e.worker) gate) (Tree (tree.EnterQueue (map_cell s e.worker) gate))
        (λ may. record { e = e; r = r; height = height; errand = errand; row = row; way_is = is; map_is = refl; leads = leads; may = may })
        (λ may. enter_queue-prepared s w g i n e errand gate leads r height row is may)

    out : (height : Option ℕ) (filled : Bool) → r.way ≡ way.Before height filled → IsOut e.task
    out height filled is = subst IsOut (sym row) (ap place_of is)

    by-way : (on : Way) → r.way ≡ on → IfSome (row_due s w (w.actors n) e on) Is
    by-way (way.Before height filled) is =
        at-shard (out height filled is) (λ gate. gate_due (map_cell s e.worker) gate (w.cells gate) (w.actors n) height filled) (at-gate height filled is)
    by-way (way.Carried gate block) is = either Is (is_leaf (block_in (w.cells block)).body) (Tree (tree.PutInLeaf block)) (Descends block)
        (λ leaf. put_in_leaf-prepared s w g i n e errand r row gate block is leaf)
        (λ directory. record { e = e; r = r; gate = gate; errand = errand; row = row; way_is = is; directory = directory })
    by-way (way.Put gate) is = leave_tree-prepared s w g i n e errand r row gate is
    by-way way.Placed is = either Is (is_empty (w.actors n).purse) (Part (ending s e None)) (Tree tree.GiveBack)
        (λ empty. ending-prepared s w g i n e errand (subst HasEnd (sym row) (inl is)) None (ap pin_of row))
        (λ some. give_back-prepared s w g i n e errand r row is some)

  -- A query.

  visits : (r : ReadingValue) → e.task ≡ Read r → (items : List Item) → r.items ≡ items → Is (visit_due s e r.pin (last_noted items))
  visits r task [] is = ending-prepared s w g i n e errand (subst HasEnd (sym task) tt) r.pin (ap pin_of task)
  visits r task (item ∷ items) is =
      let ends = ends-in (item ∷ items) (omega arith) in
      subst (λ (o : Option ℕ). Is (visit_due s e r.pin o)) (sym (ap last_noted ends.is ∙ noted-at ends.front ends.last)) (visit-prepared s w g i n e errand r ends.front ends.last task (is ∙ ends.is))

  by-task : (t : TaskValue) → e.task ≡ t → IfSome (task_due s w (w.actors n) e t) Is
  by-task (OfRow r) is = by-way r is r.way refl
  by-task (Unread f) is =
      at-shard (subst IsOut (sym is) tt) (λ gate. Tree (tree.ReadGate (map_cell s e.worker) gate)) (λ gate leads. read_gate-prepared s w g i n e errand gate leads f is)
  by-task (Read r) is = visits r is r.items refl

  pub part-prepared : IfSome (part_due s w (w.actors n) e) (IsPartPrepared s w n)
  part-prepared = by-task e.task refl

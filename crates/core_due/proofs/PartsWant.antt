-- Which block a part's step wants; and where a step finds no memory, its part can end.
use Rattle.std.proofs.Common.{◌≡◌, ◌∙◌, ℕ, inl, inr, Bool, true, false, Option, Some, None, slice_get, refl, ap}
use Rattle.std.specs.{Option.IfSome, Prelude.{map, option_and_then, option_map}}
use Rattle.core_due.specs.{Due.{is_empty, led_to, may_enter}, Parts.{due_may_fail, ending, gate_due, part_due, row_due, task_due, visit_due}, Ready.{IsDescending, IsEntering, wanted_by}, Wants.{child_wanted, last_noted, root_at, wanted, wanted_down, wanted_of, wanted_visit}, declared.parts.PartDue.PartDue}
use Rattle.core_due.specs.declared.parts.PartDue.TheVariants.{Descends, Enters, Part, Tree}
use Rattle.core_due.proofs.{DueCases.{either, led}, Free.wanted-at, Picks.HasPick}
use Rattle.core_steps.specs.core_shard.specs.Due.{HasEnd}
use Rattle.core_steps.specs.Trees.{tree_kind}
use Rattle.core_steps.specs.declared.trees.TreeStep.TheVariants as tree
use Rattle.dc_node.specs.{Block.{entries_in, is_leaf}, declared.entry.Entry.Entry}
use Rattle.core_steps.specs.volap_cell.specs.{Cells.{block_in, way_in}, Errands.place_of, Setting.{Setting, desk_cell, map_cell}, Values.{ActorValue, ErrandValue, OfRow, Read, TaskValue, Unread}, World.World, declared.errand.RowErrand.RowErrand, declared.errand.Way.Way, declared.kind.Kind.TheVariants.{Down, EnterTree}}
use Rattle.core_steps.specs.volap_cell.specs.declared.errand.Way.TheVariants as way

-- Where no memory is found.

module _ (s : Setting) (w : World) (a : ActorValue) (e : ErrandValue) where
  -- where the step may find none, its part can end
  abbrev CanEndAt : TaskValue → PartDue → Type 0
  CanEndAt t due = due_may_fail due ≡ true → HasEnd t

  row-ends : (r : RowErrand) (on : Way) → r.way ≡ on → IfSome (row_due s w a e on) (CanEndAt (OfRow r))
  row-ends r (way.Before height filled) is =
      let ends : HasEnd (OfRow r) = inr (ap place_of is) in
      led (CanEndAt (OfRow r)) (map_cell s e.worker) (desk_cell s e.server) (λ gate. gate_due (map_cell s e.worker) gate (w.cells gate) a height filled) (led_to s w e) (λ gate leads fails. ends) (λ plane left right leads fails. ends) (λ to leads fails. ends)
  row-ends r (way.Carried gate block) is = either (CanEndAt (OfRow r)) (is_leaf (block_in (w.cells block)).body) (Tree (tree.PutInLeaf block)) (Descends block) (λ leaf fails. cc) (λ directory fails. cc)
  row-ends r (way.Put gate) is = λ fails. cc
  row-ends r way.Placed is = either (CanEndAt (OfRow r)) (is_empty a.purse) (Part (ending s e None)) (Tree tree.GiveBack) (λ empty fails. inl is) (λ some fails. inl is)

  task-ends : (t : TaskValue) → IfSome (task_due s w a e t) (CanEndAt t)
  task-ends (OfRow r) = row-ends r r.way refl
  task-ends (Unread f) =
      led (CanEndAt (Unread f)) (map_cell s e.worker) (desk_cell s e.server) (λ gate. Tree (tree.ReadGate (map_cell s e.worker) gate)) (led_to s w e) (λ gate leads fails. tt) (λ plane left right leads fails. tt) (λ to leads fails. tt)
  task-ends (Read r) = λ fails. tt

  pub part-ends : IfSome (part_due s w a e) (CanEndAt e.task)
  part-ends = task-ends e.task

-- What is wanted.

-- of a step that is due it is what its kind wants
abbrev pub IsWanted : Setting → World → ErrandValue → PartDue → Type 0
IsWanted s w e (Tree step) = wanted_of s w e (tree_kind step) ≡ wanted_by step
IsWanted s w e _ = Unit {0}

module _ (s : Setting) (w : World) (a : ActorValue) (e : ErrandValue) where
  gate-wants : (height : Option ℕ) (filled : Bool) (gate : ℕ) → IsWanted s w e (gate_due (map_cell s e.worker) gate (w.cells gate) a height filled)
  gate-wants None filled gate = tt
  gate-wants (Some height) false gate = refl
  gate-wants (Some height) true gate = either (IsWanted s w e) (may_enter (w.cells gate) a) (Enters (map_cell s e.worker) gate) (Tree (tree.EnterQueue (map_cell s e.worker) gate)) (λ may. tt) (λ may. refl)

  row-wants : (on : Way) → IfSome (row_due s w a e on) (IsWanted s w e)
  row-wants (way.Before height filled) =
      led (IsWanted s w e) (map_cell s e.worker) (desk_cell s e.server) (λ gate. gate_due (map_cell s e.worker) gate (w.cells gate) a height filled) (led_to s w e) (λ gate leads. gate-wants height filled gate) (λ plane left right leads. tt) (λ to leads. tt)
  row-wants (way.Carried gate block) = either (IsWanted s w e) (is_leaf (block_in (w.cells block)).body) (Tree (tree.PutInLeaf block)) (Descends block) (λ leaf. refl) (λ directory. tt)
  row-wants (way.Put gate) = refl
  row-wants way.Placed = either (IsWanted s w e) (is_empty a.purse) (Part (ending s e None)) (Tree tree.GiveBack) (λ empty. tt) (λ some. refl)

  visit-wants : (pin o : Option ℕ) → wanted_visit e.task ≡ o → IsWanted s w e (visit_due s e pin o)
  visit-wants None None is = tt
  visit-wants (Some gate) None is = tt
  visit-wants pin (Some block) is = is

  task-wants : (t : TaskValue) → e.task ≡ t → IfSome (task_due s w a e t) (IsWanted s w e)
  task-wants (OfRow r) is = row-wants r.way
  task-wants (Unread f) is = led (IsWanted s w e) (map_cell s e.worker) (desk_cell s e.server) (λ gate. Tree (tree.ReadGate (map_cell s e.worker) gate)) (led_to s w e) (λ gate leads. refl) (λ plane left right leads. tt) (λ to leads. tt)
  task-wants (Read r) is = visit-wants r.pin (last_noted r.items) (ap wanted_visit is)

  pub part-wants : IfSome (part_due s w a e) (IsWanted s w e)
  part-wants = task-wants e.task refl

-- A row on its way down wants the child, and one that comes in the root.

pub down-wants : (s : Setting) (w : World) (n block : ℕ) (d : IsDescending w n block) (pick : HasPick s.hierarchy d.r.row.at (entries_in (block_in (w.cells block)).body)) → wanted s w (w.actors n) Down ≡ Some pick.entry.child
down-wants s w n block d pick =
    wanted-at s w n d.e Down d.errand
    ∙ ap (wanted_down s.hierarchy w) d.row
    ∙ ap (child_wanted s.hierarchy w d.r.row) d.way_is
    ∙ ap (option_and_then (λ (place : ℕ). option_map (λ (x : Entry). x.child) (slice_get (entries_in (block_in (w.cells block)).body) place))) pick.place_is
    ∙ ap (option_map (λ (x : Entry). x.child)) pick.entry_at

pub in-wants : (s : Setting) (w : World) (n map gate : ℕ) (d : IsEntering s w n map gate) → wanted s w (w.actors n) EnterTree ≡ Some (way_in (w.cells gate)).root
in-wants s w n map gate d = wanted-at s w n d.e EnterTree d.errand ∙ ap (root_at w) d.leads

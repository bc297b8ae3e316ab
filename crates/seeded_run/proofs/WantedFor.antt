-- The block that a part's step wants is told by what is due: it is the one that its kind wants.
use Rattle.std.proofs.Common.{◌∙◌, ◌≡◌, ℕ, Bool, true, false, cond, Option, None, Some, IfSome, option_map, ap, refl, sym}
use Rattle.std.specs.{Option.option_map_or}
use Rattle.core_due.specs.{Due.{errand_kind, is_empty, led_to, may_enter}, Parts.{due_kind, ending, gate_due, part_due, row_due, task_due, visit_due}, Wants.{child_wanted, last_noted, root_at, wanted_down, wanted_of, wanted_visit}, declared.parts.PartDue.PartDue}
use Rattle.core_due.specs.declared.parts.PartDue.TheVariants.{Descends, Enters, Part, Tree}
use Rattle.core_due.proofs.{DueCases.{either, led, of-some}, PartKinds.part-kind}
use Rattle.core_due.specs.core_steps.specs.declared.trees.TreeStep.TheVariants as tree
use Rattle.dc_node.specs.Block.{is_leaf}
use Rattle.core_pages.specs.volap_cell.specs.{Cells.block_in, Setting.{Setting, desk_cell, map_cell}, Values.{ActorValue, ErrandValue, OfRow, Read, TaskValue, Unread}, World.World, declared.errand.RowErrand.RowErrand, declared.errand.Way.Way, declared.kind.Kind.Kind}
use Rattle.core_pages.specs.volap_cell.specs.declared.errand.Way.TheVariants as way
use Rattle.seeded_run.specs.{DueSteps.step_where, Takes.{child_for, wanted_for}, declared.turn.DueStep.DueStep}
use Rattle.seeded_run.specs.declared.turn.DueStep.TheVariants.{AtPart}

-- it is the same block
abbrev IsSameBlock : Setting → World → ErrandValue → PartDue → Type 0
IsSameBlock s w e due = wanted_of s w e (due_kind due) ≡ wanted_for s.hierarchy w e due

module _ (s : Setting) (w : World) (a : ActorValue) (e : ErrandValue) where
  gate-wants : (height : Option ℕ) (filled : Bool) (gate : ℕ) → root_at w (led_to s w e) ≡ wanted_for s.hierarchy w e (Enters (map_cell s e.worker) gate)
      → IsSameBlock s w e (gate_due (map_cell s e.worker) gate (w.cells gate) a height filled)
  gate-wants None filled gate root = refl
  gate-wants (Some height) false gate root = refl
  gate-wants (Some height) true gate root = either (IsSameBlock s w e) (may_enter (w.cells gate) a) (Enters (map_cell s e.worker) gate) (Tree (tree.EnterQueue (map_cell s e.worker) gate)) (λ may. root) (λ may. refl)

  ending-wants : (pin : Option ℕ) → IsSameBlock s w e (Part (ending s e pin))
  ending-wants None = refl
  ending-wants (Some gate) = refl

  visit-wants : (pin o : Option ℕ) → wanted_visit e.task ≡ o → IsSameBlock s w e (visit_due s e pin o)
  visit-wants pin None is = ending-wants pin
  visit-wants pin (Some block) is = is

  row-wants : (r : RowErrand) → e.task ≡ OfRow r → (on : Way) → r.way ≡ on → IfSome (row_due s w a e on) (IsSameBlock s w e)
  row-wants r task (way.Before height filled) is =
      led (IsSameBlock s w e) (map_cell s e.worker) (desk_cell s e.server) (λ gate. gate_due (map_cell s e.worker) gate (w.cells gate) a height filled) (led_to s w e)
      (λ gate leads. gate-wants height filled gate (ap (root_at w) leads)) (λ plane left right leads. refl) (λ to leads. refl)
  row-wants r task (way.Carried gate block) is =
      either (IsSameBlock s w e) (is_leaf (block_in (w.cells block)).body) (Tree (tree.PutInLeaf block)) (Descends block) (λ leaf. refl)
      (λ directory. ap (wanted_down s.hierarchy w) task ∙ ap (child_wanted s.hierarchy w r.row) is ∙ sym (ap (λ (t : TaskValue). child_for s.hierarchy w t block) task))
  row-wants r task (way.Put gate) is = refl
  row-wants r task way.Placed is = either (IsSameBlock s w e) (is_empty a.purse) (Part (ending s e None)) (Tree tree.GiveBack) (λ empty. refl) (λ some. refl)

  task-wants : (t : TaskValue) → e.task ≡ t → IfSome (task_due s w a e t) (IsSameBlock s w e)
  task-wants (OfRow r) is = row-wants r is r.way refl
  task-wants (Unread f) is =
      led (IsSameBlock s w e) (map_cell s e.worker) (desk_cell s e.server) (λ gate. Tree (tree.ReadGate (map_cell s e.worker) gate)) (led_to s w e) (λ gate leads. refl) (λ plane left right leads. refl) (λ to leads. refl)
  task-wants (Read r) is = visit-wants r.pin (last_noted r.items) (ap wanted_visit is)

  -- what the kind of a part's step wants, it wants
  pub wants-same : (due : PartDue) → part_due s w a e ≡ Some due → wanted_of s w e (due_kind due) ≡ wanted_for s.hierarchy w e due
  wants-same due is = of-some (part_due s w a e) (IsSameBlock s w e) due (task-wants e.task refl) is

  -- What is done at a part, by whether the blocks are free.
  module _ (free : ℕ → Bool) where
    abbrev may : Kind → Bool
    may k = option_map_or free (wanted_of s w e k) true

    abbrev goes : Option PartDue → Option DueStep
    goes o = step_where (option_map_or may (option_map due_kind o) false) (option_map AtPart o)

    goes-by : step_where (option_map_or may (errand_kind s w a e) false) (option_map AtPart (part_due s w a e)) ≡ goes (part_due s w a e)
    goes-by = ap (λ o. step_where (option_map_or may o false) (option_map AtPart (part_due s w a e))) (sym (part-kind s w a e))

    pub none-at-part : part_due s w a e ≡ None → step_where (option_map_or may (errand_kind s w a e) false) (option_map AtPart (part_due s w a e)) ≡ None
    none-at-part is = goes-by ∙ ap goes is

    pub goes-if-free : (due : PartDue) (b : Bool) → part_due s w a e ≡ Some due → option_map_or free (wanted_for s.hierarchy w e due) true ≡ b
        → step_where (option_map_or may (errand_kind s w a e) false) (option_map AtPart (part_due s w a e)) ≡ cond b (Some (AtPart due)) None
    goes-if-free due b is can =
        goes-by ∙ ap goes is
        ∙ ap (λ o. step_where (option_map_or free o true) (Some (AtPart due))) (wants-same due is)
        ∙ ap (λ c. step_where c (Some (AtPart due))) can

-- where each block is free
pub all-free : (free : ℕ → Bool) → ((block : ℕ) → free block ≡ true) → (o : Option ℕ) → option_map_or free o true ≡ true
all-free free each None = refl
all-free free each (Some block) = each block

-- What is due for a part, as what is prepared says it of a step that is known: what it asks, and that a state that one thread holds may
-- make it; and so of its end, where no memory was found for that.
use Rattle.std.proofs.Common.{◌≡◌, ◌∙◌, ℕ, IfSome, true, List, Some, refl, sym, ap, subst}
use Rattle.core_due.specs.{Look.{cell_at, cells_only, world_by}, Parts.{due_may_fail, ending, part_due}, Ready.{CanDescend, HasPrepared, HasReady, IsAsked, IsDescending, IsEntering, IsFreeFor, IsPartPrepared, IsPartReady, IsStateOf, MayMakePart, head_of, wanted_by}, Rows.{descent_of, down_by, entrance_of, in_by, row_of}, declared.parts.PartDue.PartDue, Wants.meets}
use Rattle.core_due.specs.declared.parts.PartDue.TheVariants.{Descends, Enters, Part, Tree}
use Rattle.core_due.proofs.{Descents.{descent}, DueCases.of-some, Entrances.{entrance}, Free.{meets-free, wanted-at}, InStates.{cells-seen, part-may, row-may, tree-may}, PartsPrepared.part-prepared, PartsWant.{IsWanted, down-wants, in-wants, part-ends, part-wants}, StepsPrepared.ending-prepared}
use Rattle.core_steps.specs.core_shard.specs.Due.{HasEnd}
use Rattle.core_steps.specs.{Trees.tree_kind, declared.trees.TreeStep.TreeStep}
use Rattle.dc_node.specs.Block.{IsBodyOf}
use Rattle.dim_hierarchy.specs.{Dimension.Dimension, Rows.IsRowOf}
use Rattle.row_ledger.specs.declared.settings.Use.{Use}
use Rattle.core_steps.specs.volap_cell.specs.{Cells.{CellValue, block_in, way_in}, Setting.Setting, ShardKinds.pin_of, Steps.Inv, Values.ErrandValue, World.World, declared.kind.Kind.TheVariants.{Down, EnterTree}, declared.state.State.State}

module _ (s : Setting) (w : World) (n : ℕ) (inv : Inv s w) where
  module _ (e : ErrandValue) (errand : (w.actors n).errand ≡ Some e) (due : PartDue) (is : part_due s w (w.actors n) e ≡ Some due) where
    pub is-prepared : IsPartPrepared s w n due
    is-prepared = of-some (part_due s w (w.actors n) e) (IsPartPrepared s w n) due (part-prepared s w inv.ghost_of inv.holds n e errand) is

    pub is-asked : IsAsked s w n due
    is-asked = by due is-prepared
      where
        by : (x : PartDue) → IsPartPrepared s w n x → IsAsked s w n x
        by (Part step) p = p.asked
        by (Tree step) p = p.asked
        by (Enters map gate) p = p
        by (Descends block) p = p

  -- a step that is due at a part is free where its kind can be made
  pub is-free : (e : ErrandValue) → (w.actors n).errand ≡ Some e → (step : TreeStep) → part_due s w (w.actors n) e ≡ Some (Tree step) → meets s w n (tree_kind step) ≡ true → IsFreeFor w n step
  is-free e errand step is meets_it =
      meets-free s w inv.ghost_of inv.holds n (tree_kind step) (wanted_by step)
      (wanted-at s w n e (tree_kind step) errand ∙ of-some (part_due s w (w.actors n) e) (IsWanted s w e) (Tree step) (part-wants s w (w.actors n) e) is) meets_it

  pub down-prepared : (block : ℕ) → IsDescending w n block → HasPrepared s w n Down (descent_of s.hierarchy w (w.actors n) block)
  down-prepared block d =
      let k = descent s w inv.ghost_of inv.holds n block d in
      let step = down_by w (w.actors n).purse block k.pick.place k.pick.entry in
      (step, k.step_is, k.prepared, meets-free s w inv.ghost_of inv.holds n Down (Some (head_of step)) (down-wants s w n block k.d k.pick))

  pub in-prepared : (map gate : ℕ) → IsEntering s w n map gate → HasPrepared s w n EnterTree (entrance_of w (w.actors n).purse map gate)
  in-prepared map gate d =
      let k = entrance s w inv.ghost_of inv.holds n gate map d in
      let step = in_by w (w.actors n).purse map gate (way_in (w.cells gate)) in
      (step, k.step_is, k.prepared, meets-free s w inv.ghost_of inv.holds n EnterTree (Some (head_of step)) (in-wants s w n map gate d))

-- Of a state that one thread holds.

module _ (h : List Dimension) (with : Use) (state : State) (s : Setting) (w : World) (of : IsStateOf h with state s w) (n : ℕ) where
  module _ (e : ErrandValue) (errand : (w.actors n).errand ≡ Some e) (due : PartDue) (is : part_due s w (w.actors n) e ≡ Some due) where
    pub is-ready : IsPartReady h state w n due
    is-ready = by due (is-prepared s w n of.inv e errand due is)
      where
        by : (x : PartDue) → IsPartPrepared s w n x → IsPartReady h state w n x
        by (Part step) p = part-may h with state s w of n step p
        by (Tree step) p = tree-may h with state s w of n step p
        by (Enters map gate) p = tt
        by (Descends block) p = tt

    -- where it found no memory, the part ends
    pub ends-ready : due_may_fail due ≡ true → MayMakePart h state n (ending s e (pin_of e.task))
    ends-ready fails =
        part-may h with state s w of n (ending s e (pin_of e.task))
        (ending-prepared s w of.inv.ghost_of of.inv.holds n e errand (of-some (part_due s w (w.actors n) e) (λ x. due_may_fail x ≡ true → HasEnd e.task) due (part-ends s w (w.actors n) e) is fails) (pin_of e.task) refl)

  abbrev seen : w.cells ≡ cell_at state.cells.items
  seen = cells-seen state.cells.items state.actors.items w of.is

  pub down-ready : (block : ℕ) → IsDescending w n block → HasReady h state w n (descent_of h (world_by state.cells.items) (w.actors n) block)
  down-ready block d =
      let k = descent s w of.inv.ghost_of of.inv.holds n block d in
      let step = down_by w (w.actors n).purse block k.pick.place k.pick.entry in (
        step,
        sym (ap (λ (g : List Dimension). descent_of g w (w.actors n) block) of.hierarchy ∙ ap (λ (f : ℕ → CellValue). descent_of h (cells_only f) (w.actors n) block) seen) ∙ k.step_is,
        row-may h with state s w of n step k.prepared,
      )

  pub in-ready : (map gate : ℕ) → IsEntering s w n map gate → HasReady h state w n (entrance_of (world_by state.cells.items) (w.actors n).purse map gate)
  in-ready map gate d =
      let k = entrance s w of.inv.ghost_of of.inv.holds n gate map d in
      let step = in_by w (w.actors n).purse map gate (way_in (w.cells gate)) in
      (step, sym (ap (λ (f : ℕ → CellValue). entrance_of (cells_only f) (w.actors n).purse map gate) seen) ∙ k.step_is, row-may h with state s w of n step k.prepared)

  -- and its code may look for the entry
  pub can-descend : (block : ℕ) → IsDescending w n block → CanDescend h state.cells.items (w.actors n) block
  can-descend block d =
      let k = descent s w of.inv.ghost_of of.inv.holds n block d in
      record {
        body = subst (λ (f : ℕ → CellValue). IsBodyOf h (block_in (f block)).body) seen (subst (λ (g : List Dimension). IsBodyOf g (block_in (w.cells block)).body) of.hierarchy k.body);
        row = subst (λ (g : List Dimension). IfSome (row_of (w.actors n).errand) (IsRowOf g)) of.hierarchy k.row_valid;
      }

-- The step by which a cell is used again: where it is due what it asks is so, and the administrator may hold its cells. Where nobody is at a
-- part and none is due no gate is gone.
use Rattle.std.proofs.Common.{◌≡◌, ◌≢◌, ℕ, ◌-◌, ◌<◌, true, false, cond, IsSome, List, [], ◌∷◌, ◌++◌, length, slice_get, Option, Some, None, refl, sym, ap, ◌∙◌, subst, arith}
use Rattle.std.specs.Prelude.{⊤, option_map}
use Rattle.core_steps.specs.core_admin.specs.ReuseDue.{CanReuse}
use Rattle.core_steps.specs.core_admin.proofs.{Collecting.FrozenGates.phase-gate, Reusing.FreesCells.in-tree}
use Rattle.core_due.specs.{Reuses.{released, reuse_at, reuse_by, reuse_due, reuse_for}, ReuseLaws.{IsReuseDue, IsReusePrepared}}
use Rattle.core_due.proofs.{Holding.{CanHold, CanHoldAll, hold-one, prepared}, LastItems.{found-last, found-none}, Owned.{gate-low, lend-block, lend-gate, tree-owned}, Released.{found-released, is-released, none-released, released-is}}
use Rattle.core_steps.specs.{Reuses.{reuse_asks, reuse_places}, declared.reuses.ReuseStep.ReuseStep}
use Rattle.core_steps.specs.declared.reuses.ReuseStep.TheVariants as reuse
use Rattle.list_words.proofs.{Elements.Some-same, Times.{same_is, times-append}}
use Rattle.list_words.specs.Counts.{times}
use Rattle.core_steps.specs.shard_store.specs.{declared.gate.Phase.Phase, declared.gate.Phase.TheVariants.Gone}
use Rattle.core_steps.specs.volap_cell.proofs.{Cells.Holding.carries, Persons.has-role, Sums.sum-zero}
use Rattle.core_steps.specs.volap_cell.specs.{Cells.{CellValue, TheStock, gate_shard, gone_in, phase_of, pins_in}, Errands.read_of, Ghost.{AGate, Ghost, InTree}, Invariant.InvWith, Querying.pins_of, Reusing.is_gone, Setting.{Setting, actor_count, stock_cell}, Steps.Inv, Values.{ErrandValue}, View.{View, view}, World.{MustKeep, World}, declared.role.Role.Role, declared.role.Role.TheVariants.{Admin, Hand, Puller, Session}}

module _ (s : Setting) (w : World) (inv : Inv s w) where
  abbrev v : View
  v = view s w

  abbrev g : Ghost
  g = inv.ghost_of

  abbrev i : InvWith s (view s w) inv.ghost_of
  i = inv.holds

  -- Cells of a gate that is gone.

  module _ (n gate : ℕ) (gone : phase_of (w.cells gate) ≡ Some Gone) where
    stands : IsSome (gate_shard (w.cells gate))
    stands = (let k = phase-gate (w.cells gate) Gone gone in subst (λ (c : CellValue). IsSome (gate_shard c)) (sym k.1) refl)

    hold-gate : CanHold s w n gate
    hold-gate = lend-gate s w g i n ⊤ gate stands

    hold-stock : CanHold s w n stock_cell
    hold-stock = hold-one s w inv n stock_cell TheStock (i.numbering.tag stock_cell) (λ e. cc)

    gate-off-stock : stock_cell ≢ gate
    gate-off-stock e = (let low = gate-low s w g i gate stands in absurd (omega (arith, e, low)))

    gate-held : CanHoldAll s w n (gate ∷ stock_cell ∷ [])
    gate-held = record { each = (hold-gate, (hold-stock, tt)); apart = ((gate-off-stock, tt), (tt, tt)) }

    module _ (block : ℕ) (front : List ℕ) (list : gone_in (w.cells gate) ≡ front ++ block ∷ []) where
      owner : g.owner block ≡ InTree gate
      owner =
          let cells = i.stocking.gone_cells gate gone block in
          let all = ap (times block) list ∙ times-append block front (block ∷ []) in
          let one = same_is block block refl in
          in-tree gate (g.owner block) (omega (arith, cells, all, one))

      -- no row is carried in its tree
      uncarried : (a : ℕ) → ¬ MustKeep (w.actors a) block
      uncarried a keeps =
          let x = carries s v g i a block keeps in
          let both : InTree x.gate ≡ InTree gate = sym x.owner ∙ owner in
          let same : x.gate ≡ gate = cc in
          (i.turning.carrying a x.gate block x.way x.is_way x.place).0.stands (ap v.phases same ∙ gone)

      block-off-gate : block ≢ gate
      block-off-gate e = (let never : AGate ≡ InTree gate = sym (i.stocking.gate gate stands) ∙ ap g.owner (sym e) ∙ owner in cc)

      block-off-stock : stock_cell ≢ block
      block-off-stock e = (let low = (i.stocking.within block (tree-owned s w g i gate block owner)).0 in absurd (omega (arith, e, low)))

      block-held : CanHoldAll s w n (gate ∷ block ∷ stock_cell ∷ [])
      block-held = record {
        each = (hold-gate, (lend-block s w g i n ⊤ gate block owner (λ always a ne. uncarried a), (hold-stock, tt)));
        apart = ((block-off-gate, (gate-off-stock, tt)), ((block-off-stock, tt), (tt, tt)));
      }

  -- What is due.

  module _ (n : ℕ) where
    there : (w.actors n).role ≡ Admin → n < actor_count s
    there admin = has-role s v i.numbering n (λ e. let never : Admin ≡ Hand s.workers = sym admin ∙ e in cc)

    module _ (admin : (w.actors n).role ≡ Admin) (no_command : (w.actors n).command ≡ None) (gate : ℕ) (gone : phase_of (w.cells gate) ≡ Some Gone) (unpinned : pins_in (w.cells gate) ≡ 0) where
      can : CanReuse (w.cells gate) (w.cells stock_cell) (w.actors n)
      can = record { role = admin; no_command = no_command; gone = gone; unpinned = unpinned; stock_is = i.numbering.tag stock_cell }

      by-last : (o : Option ℕ) → slice_get (gone_in (w.cells gate)) (length (gone_in (w.cells gate)) - 1) ≡ o → IsReusePrepared s w n (reuse_by gate o)
      by-last None found = prepared s w inv n (reuse_places (reuse.Gate gate)) (reuse_asks (reuse.Gate gate) s.hierarchy) (there admin) (gate-held n gate gone)
          (record { can = can; empty = found-none (gone_in (w.cells gate)) found })
      by-last (Some block) found =
          let k = found-last (gone_in (w.cells gate)) block found in
          prepared s w inv n (reuse_places (reuse.Block gate block)) (reuse_asks (reuse.Block gate block) s.hierarchy) (there admin) (block-held n gate gone block k.0 k.1)
          (record { can = can; cells = k.0; last = k.1 })

      at-prepared : IsReusePrepared s w n (reuse_at w gate)
      at-prepared = by-last (slice_get (gone_in (w.cells gate)) (length (gone_in (w.cells gate)) - 1)) refl

    pub reuse-prepared : (step : ReuseStep) → IsReuseDue w n step → IsReusePrepared s w n step
    reuse-prepared step d = by-role (w.actors n).role refl d.due
      where
        by-gate : (w.actors n).role ≡ Admin → (o : Option ℕ) → released w (w.actors n) ≡ o → option_map (reuse_at w) o ≡ Some step → IsReusePrepared s w n step
        by-gate admin None found due = (let never : ◌≡◌ {A = Option ReuseStep} None (Some step) = due in absurd (cc))
        by-gate admin (Some gate) found due =
            let is = released-is (w.cells gate) (found-released w (w.actors n).gone_gates gate found) in
            subst (IsReusePrepared s w n) (sym (Some-same (reuse_at w gate) step due)) (at-prepared admin d.no_command gate is.0 is.1)

        by-role : (r : Role) → (w.actors n).role ≡ r → reuse_for w (w.actors n) r ≡ Some step → IsReusePrepared s w n step
        by-role Admin is due = by-gate is (released w (w.actors n)) refl due
        by-role (Session server) is due = (let never : ◌≡◌ {A = Option ReuseStep} None (Some step) = due in absurd (cc))
        by-role (Hand worker) is due = (let never : ◌≡◌ {A = Option ReuseStep} None (Some step) = due in absurd (cc))
        by-role Puller is due = (let never : ◌≡◌ {A = Option ReuseStep} None (Some step) = due in absurd (cc))

-- Where none is due.

module _ (s : Setting) (w : World) (g : Ghost) (i : InvWith s (view s w) g) (n : ℕ) where
  none-pinned : ((a : ℕ) → (w.actors a).errand ≡ None) → (c : ℕ) → pins_in (w.cells c) ≡ 0
  none-pinned idle c =
      i.pinning.counts c
      ∙ sum-zero (actor_count s) (λ a. pins_of c (read_of (w.actors a).errand)) (λ a low. ap (λ (o : Option ErrandValue). pins_of c (read_of o)) (idle a))

  none-found : (o : Option ℕ) → option_map (reuse_at w) o ≡ None → o ≡ None
  none-found None due = refl
  none-found (Some gate) due = (let never : Some (reuse_at w gate) ≡ None = due in absurd (cc))

  pub none-gone : (w.actors n).role ≡ Admin → ((a : ℕ) → (w.actors a).errand ≡ None) → reuse_due w (w.actors n) ≡ None → (c : ℕ) → (view s w).phases c ≢ Some Gone
  none-gone admin idle due c gone =
      let none = none-found (released w (w.actors n)) (sym (ap (reuse_for w (w.actors n)) admin) ∙ due) in
      let listed = i.reusing.listed n c admin in
      let one : ◌≡◌ {A = ℕ} (cond (is_gone ((view s w).phases c)) 1 0) 1 = ap (λ (p : Option Phase). cond (is_gone p) 1 0) gone in
      let never : true ≡ false = sym (is-released (w.cells c) gone (none-pinned idle c)) ∙ none-released w (w.actors n).gone_gates none c (omega (arith, listed, one)) in
      cc

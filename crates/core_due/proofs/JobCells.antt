-- Cells that the administrator's job may hold: the gate of its shard, blocks of a tree in which no insert is, those that it fills, and
-- tables.
use Rattle.std.proofs.Common.{ℕ, ◌≡◌, ◌≢◌, ◌<◌, ◌≤◌, Bool, List, [], ◌∷◌, ◌++◌, Option, Some, None, inl, inr, refl, sym, ap, ◌∙◌, subst, arith, eq-eqb}
use Rattle.std.specs.Prelude.{IsSome, ⊤, if◌then◌else◌}
use Rattle.cell_stock.specs.{declared.purse.Spare.Spare}
use Rattle.core_steps.specs.core_admin.proofs.Collecting.FrozenGates.{IsGateOf, frozen-gate, phase-gate}
use Rattle.core_steps.specs.core_admin.specs.{CollectDue.CanCollectBlock, FinishDue.{CanBuildBlock}}
use Rattle.core_due.proofs.{GatesLed.{gate-stands, map-fixed}, Holding.{CanHold, CanHoldAll, hold-one}, Owned.{gate-low, lend-fixed, lend-gate}}
use Rattle.dc_node.specs.declared.todo.Item.{Item}
use Rattle.link_descent.specs.declared.entered.Fresh.{Fresh}
use Rattle.list_words.specs.Counts.{Among}
use Rattle.core_steps.specs.shard_store.specs.declared.gate.Phase.TheVariants as phase
use Rattle.core_steps.specs.tree_shape.specs.{Collecting.IsCollecting, Laws.ReadableLaw, Shape.numbers as numbers_of}
use Rattle.core_steps.specs.volap_cell.proofs.{Cells.Blanks.spent-owner, Cells.Holding.carries, Cells.Numbers.is-map, Cells.Spares.among-cells, Persons.has-taken, Sums.sum-some}
use Rattle.core_steps.specs.volap_cell.specs.{AdminKinds.{HasJob, spent_by, spent_in}, Cells.{CellValue, MapOf, TheStock, gate_shard, tag_of, where_in}, Errands.{RowWay, taken_by, taken_of, way_of}, Ghost.{Ghost, InJob, InTree, NotOfStock}, Growing.table_of, Invariant.InvWith, Setting.{Setting, actor_count, first_stock_cell, map_cell, stock_cell}, Steps.Inv, Stocking.{cells_at, spent_of}, Turning.{inside_of, is_inside}, Values.{CollectingValue, ErrandValue, JobValue, StageValue}, View.{View, view}, Working.{IsCollected, frozen_in}, World.{MustKeep, World}, declared.job.Frozen.Frozen}
use Rattle.mapping_table.specs.declared.place.Where.TheVariants as where_is

-- the spare of a block that isn't built yet is among those of all blocks
spare-among : (others : List Fresh) (f : Fresh) (built : List Fresh) → Among (record { cell = f.cell; stamp = f.block.stamp }) (spent_by ((others ++ f ∷ []) ++ built))
spare-among [] f built = inl refl
spare-among (x ∷ others) f built = inr (spare-among others f built)

module _ (s : Setting) (w : World) (inv : Inv s w) (n : ℕ) where
  abbrev v : View
  v = view s w

  abbrev g : Ghost
  g = inv.ghost_of

  abbrev i : InvWith s (view s w) inv.ghost_of
  i = inv.holds

  -- The gate of its frozen shard.

  pub frozen-stands : (x : JobValue) → (w.actors n).job ≡ Some x → (f : Frozen) → frozen_in x.stage ≡ Some f → IsSome (gate_shard (w.cells f.gate))
  frozen-stands x is_job f on =
      let its = i.working.frozen n x f is_job on in
      let gate = phase-gate (w.cells f.gate) (phase.Frozen its.upto) its.phase_is in
      subst (λ (c : CellValue). IsSome (gate_shard c)) (sym gate.1) refl

  -- by its stage, where it is the gate here
  pub stands-here : (x : JobValue) (stage : StageValue) → HasJob (w.actors n) x stage → (f : Frozen) → frozen_in stage ≡ Some f → (gate : ℕ) → f.gate ≡ gate → IsSome (gate_shard (w.cells gate))
  stands-here x stage has f on gate here = subst (λ (y : ℕ). IsSome (gate_shard (w.cells y))) here (frozen-stands x has.is_job f (ap frozen_in has.stage_is ∙ on))

  pub one-gate : (x : JobValue) (stage : StageValue) → HasJob (w.actors n) x stage → (f : Frozen) → frozen_in stage ≡ Some f → (gate : ℕ) → f.gate ≡ gate → CanHoldAll s w n (gate ∷ [])
  one-gate x stage has f on gate here = record { each = (lend-gate s w g i n ⊤ gate (stands-here x stage has f on gate here), tt); apart = (tt, tt) }

  -- A block that it has noted is one of a tree in which no insert is, so nobody carries a row there.

  module _ (readable : ReadableLaw) (block : ℕ) (k : CanCollectBlock block (w.actors n)) where
    abbrev c : CollectingValue
    c = k.collecting

    so-far : IsCollected v.history v.blocks v.trees v.queues v.phases v.active g.shape c
    so-far = i.working.collected n k.job c (k.has).is_job (k.has).stage_is

    its : IsGateOf s v g (k.job).shard (k.job).worker c.frozen.gate
    its = frozen-gate s v g i n k.job (k.has).is_job c.frozen (ap frozen_in (k.has).stage_is)

    owner : g.owner (k.item).cell ≡ InTree c.frozen.gate
    owner =
        let reads = subst (λ (xs : List Item). IsCollecting (cells_at v.blocks v.trees c.frozen.gate) (g.shape c.frozen.gate) xs c.read (numbers_of so-far.at_blocks)) k.noted so-far.collecting in
        let it = readable (table_of s v.row) (cells_at v.blocks v.trees c.frozen.gate) (g.shape c.frozen.gate) k.items k.item c.read (numbers_of so-far.at_blocks) its.tree reads in
        (i.stocking.tree c.frozen.gate (k.item).cell its.whole it.inside it.block).0

    has-way : (a : ℕ) (way : RowWay) → v.ways a ≡ Some way → a < actor_count s
    has-way a way is = by (w.actors a).errand refl is
      where
        by : (o : Option ErrandValue) → (w.actors a).errand ≡ o → way_of o ≡ Some way → a < actor_count s
        by None at is = (let never : ◌≡◌ {A = Option RowWay} None (Some way) = is in absurd (cc))
        by (Some e) at is = has-taken s v i.numbering a (taken_by e) (ap taken_of at)

    uncarried : (a : ℕ) → ¬ MustKeep (w.actors a) (k.item).cell
    uncarried a keeps =
        let x = carries s v g i a (k.item).cell keeps in
        let trees : InTree x.gate ≡ InTree c.frozen.gate = sym x.owner ∙ owner in
        let same : x.gate ≡ c.frozen.gate = cc in
        let mine : inside_of c.frozen.gate (v.ways a) ≡ 1 = ap (inside_of c.frozen.gate) x.is_way ∙ ap (is_inside c.frozen.gate) x.place ∙ ap (λ (b : Bool). if b then 1 else 0) (eq-eqb x.gate c.frozen.gate same) in
        let some = sum-some (actor_count s) (λ b. inside_of c.frozen.gate (v.ways b)) a (has-way a x.way x.is_way) in
        let all = i.turning.counts c.frozen.gate in
        let none = so-far.drained in
        absurd (omega (arith, mine, some, all, none))

    pub noted-held : CanHoldAll s w n (block ∷ [])
    noted-held = subst (λ (y : ℕ). CanHoldAll s w n (y ∷ [])) k.here (record {
      each = (
        record {
          within = (i.stocking.within (k.item).cell (λ e. let never : InTree c.frozen.gate ≡ NotOfStock = sym owner ∙ e in cc)).1;
          free = λ always a ne. uncarried a;
        },
        tt,
      );
      apart = (tt, tt);
    })

  -- The cell of a block that isn't built yet has been spent for it, so no tree has it.

  module _ (cell : ℕ) (k : CanBuildBlock cell (w.actors n)) where
    spent : g.owner (k.next).cell ≡ InJob n
    spent =
        let was = i.working.building n k.job k.building (k.has).is_job (k.has).stage_is in
        let spare : Spare = record { cell = (k.next).cell; stamp = (k.next).block.stamp } in
        let all : spent_of (w.actors n).job ≡ spent_by ((k.building).unbuilt ++ was.built) = ap spent_of (k.has).is_job ∙ ap spent_in (k.has).stage_is ∙ was.trees_are.spent in
        spent-owner s w g i n (k.next).cell (among-cells spare (spent_of (w.actors n).job)
        (subst (Among spare) (sym all) (subst (λ (fs : List Fresh). Among spare (spent_by (fs ++ was.built))) (sym k.unbuilt) (spare-among k.others k.next was.built))))

    pub unbuilt-held : CanHoldAll s w n (cell ∷ [])
    unbuilt-held = subst (λ (y : ℕ). CanHoldAll s w n (y ∷ [])) k.here (record {
      each = (
        record {
          within = (i.stocking.within (k.next).cell (λ e. let never : InJob n ≡ NotOfStock = sym spent ∙ e in cc)).1;
          free = λ always a ne keeps. (let x = carries s v g i a (k.next).cell keeps in let never : InTree x.gate ≡ InJob n = sym x.owner ∙ spent in cc);
        },
        tt,
      );
      apart = (tt, tt);
    })

  -- A table, and the gate to which it leads.

  pub hold-map : (y worker : ℕ) → tag_of (w.cells y) ≡ MapOf worker → CanHold s w n y
  hold-map y worker is = lend-fixed s w g i n ⊤ y (map-fixed (w.cells y) worker is)

  pub map-is : (y worker : ℕ) → tag_of (w.cells y) ≡ MapOf worker → (y ≡ map_cell s worker) × (worker < s.workers)
  map-is y worker is = is-map s y worker (sym (i.numbering.tag y) ∙ is)

  pub map-low : (y worker : ℕ) → tag_of (w.cells y) ≡ MapOf worker → (3 ≤ y) × (y < first_stock_cell s)
  map-low y worker is = (let (here, few) = map-is y worker is in (omega (arith, here), omega (arith, here, few)))

  pub map-off-stock : (y worker z : ℕ) → tag_of (w.cells y) ≡ MapOf worker → first_stock_cell s ≤ z → z ≢ y
  map-off-stock y worker z is low e = (let lt = (map-low y worker is).1 in absurd (omega (arith, e, low, lt)))

  map-gate-held : (y gate worker : ℕ) → tag_of (w.cells y) ≡ MapOf worker → IsSome (gate_shard (w.cells gate)) → CanHoldAll s w n (y ∷ gate ∷ [])
  map-gate-held y gate worker is stands = record {
    each = (hold-map y worker is, (lend-gate s w g i n ⊤ gate stands, tt));
    apart = ((map-off-stock y worker gate is (gate-low s w g i gate stands), tt), (tt, tt));
  }

  pub led-gate-held : (y worker shard gate : ℕ) → tag_of (w.cells y) ≡ MapOf worker → where_in (w.cells y) shard ≡ Some (where_is.Gate gate) → CanHoldAll s w n (y ∷ gate ∷ [])
  led-gate-held y worker shard gate is leads = map-gate-held y gate worker is (gate-stands s w g i y worker shard gate is leads)

  -- and the stock
  pub freeze-held : (y worker shard gate : ℕ) → tag_of (w.cells y) ≡ MapOf worker → where_in (w.cells y) shard ≡ Some (where_is.Gate gate) → CanHoldAll s w n (y ∷ gate ∷ stock_cell ∷ [])
  freeze-held y worker shard gate is leads =
      let two = led-gate-held y worker shard gate is leads in
      let low = (map-low y worker is).0 in
      let gate_low = gate-low s w g i gate (gate-stands s w g i y worker shard gate is leads) in
      record {
        each = ((two.each).0, ((two.each).1.0, (hold-one s w inv n stock_cell TheStock (i.numbering.tag stock_cell) (λ e. cc), tt)));
        apart = (((two.apart).0.0, ((λ e. absurd (omega (arith, e, low))), tt)), (((λ e. absurd (omega (arith, e, gate_low))), tt), (tt, tt)));
      }

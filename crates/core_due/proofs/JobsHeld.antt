-- Where what a step of a job asks is so, the actor may hold the step's cells; so the step is prepared.
use Rattle.std.proofs.{Common.{ℕ, ◌≡◌, ◌≢◌, ◌+◌, ◌<◌, ◌≤◌, Bool, true, false, cond, List, [], ◌∷◌, ◌++◌, refl, sym, ap, ◌∙◌, subst, arith, eq-eqb}, lemmas.List.map-append}
use Rattle.std.specs.Prelude.{IsSome, ⊤}
use Rattle.cell_stock.specs.{Stock.cells_of, declared.purse.Spare.Spare}
use Rattle.core_steps.specs.core_admin.specs.{FinishDue.{IsBuiltUp, IsMovedUp}, SplitDue.CanFinishSplit}
use Rattle.core_due.specs.WorksReady.{IsJobAsked, IsJobPrepared}
use Rattle.core_due.proofs.{Holding.{CanHoldAll, hold-spare, hold-two, hold-with-three, prepared, spare-low, spare-off-gate}, LastItems.{next-cell-among, cell-among}, Owned.{gate-low, lend-gate}}
use Rattle.core_steps.specs.{Jobs.{job_asks, job_places}, Places.numbers, declared.jobs.JobStep.JobStep}
use Rattle.core_steps.specs.declared.jobs.JobStep.TheVariants as job
use Rattle.list_words.proofs.Times.{times-append}
use Rattle.list_words.specs.Counts.{Among, times}
use Rattle.core_steps.specs.tree_shape.specs.{Laws.ReadableLaw}
use Rattle.core_steps.specs.volap_cell.specs.{Cells.{CellValue, MapOf, TheLedger, TheStock, gate_shard, tag_of, where_in}, Ghost.{Ghost, is_in_purse}, Invariant.InvWith, Setting.{Setting, actor_count, first_stock_cell, ledger_cell, stock_cell}, Steps.Inv, Values.{Builds}, View.{View, view}, World.{World}}
use Rattle.core_due.proofs.JobCells.{freeze-held, hold-map, led-gate-held, map-is, map-low, map-off-stock, noted-held, one-gate, stands-here, unbuilt-held}

twice : (y x : ℕ) → x ≡ y → times y (y ∷ x ∷ []) ≡ 2
twice y x e = rw (e, eq-eqb y y refl) refl

at-most-one : (z : Bool) → cond z 1 0 ≤ 1
at-most-one true = omega arith
at-most-one false = omega arith

module _ (s : Setting) (w : World) (inv : Inv s w) (n : ℕ) where
  abbrev v : View
  v = view s w

  abbrev g : Ghost
  g = inv.ghost_of

  abbrev i : InvWith s (view s w) inv.ghost_of
  i = inv.holds

  -- Ends of jobs.

  module _ (gate : ℕ) (registry stock ledger : CellValue) (k : IsBuiltUp gate registry stock ledger (w.actors n)) where
    up-stands : IsSome (gate_shard (w.cells gate))
    up-stands = stands-here s w inv n k.job (Builds k.building) k.has (k.building).frozen refl gate k.here

    up-low : first_stock_cell s ≤ gate
    up-low = gate-low s w g i gate up-stands

  module _ (gate new : ℕ) (registry stock ledger : CellValue) (k : IsMovedUp gate new registry stock ledger (w.actors n)) where
    new-mine : Among new (cells_of (w.actors n).purse)
    new-mine = subst (λ (y : ℕ). Among y (cells_of (w.actors n).purse)) (sym k.cell) (subst (λ (xs : List Spare). Among (k.spare).cell (cells_of xs)) (sym k.spares) (cell-among k.rest k.spare []))

  move-held : (from to gate new a b : ℕ) (registry stock ledger : CellValue) → IsMovedUp gate new registry stock ledger (w.actors n) → tag_of (w.cells from) ≡ MapOf a → tag_of (w.cells to) ≡ MapOf b → b ≢ a
      → CanHoldAll s w n (from ∷ to ∷ gate ∷ new ∷ [])
  move-held from to gate new a b registry stock ledger k from_is to_is away =
      let stands = up-stands gate registry stock ledger k.up in
      let mine = new-mine gate new registry stock ledger k in
      let low = gate-low s w g i gate stands in
      let new_low = spare-low s w inv n new mine in
      let (from_at, from_few) = map-is s w inv n from a from_is in
      let (to_at, to_few) = map-is s w inv n to b to_is in
      record {
        each = (hold-map s w inv n from a from_is, (hold-map s w inv n to b to_is, (lend-gate s w g i n ⊤ gate stands, (hold-spare s w inv n new mine, tt))));
        apart = (
          ((λ e. away (omega (arith, e, from_at, to_at))), (map-off-stock s w inv n from a gate from_is low, (map-off-stock s w inv n from a new from_is new_low, tt))),
          ((map-off-stock s w inv n to b gate to_is low, (map-off-stock s w inv n to b new to_is new_low, tt)), ((spare-off-gate s w inv n new gate mine stands, tt), (tt, tt))),
        );
      }

  here-held : (y gate new a : ℕ) (registry stock ledger : CellValue) → IsMovedUp gate new registry stock ledger (w.actors n) → tag_of (w.cells y) ≡ MapOf a → CanHoldAll s w n (y ∷ gate ∷ new ∷ [])
  here-held y gate new a registry stock ledger k is =
      let stands = up-stands gate registry stock ledger k.up in
      let mine = new-mine gate new registry stock ledger k in
      record {
        each = (hold-map s w inv n y a is, (lend-gate s w g i n ⊤ gate stands, (hold-spare s w inv n new mine, tt)));
        apart = (
          (map-off-stock s w inv n y a gate is (gate-low s w g i gate stands), (map-off-stock s w inv n y a new is (spare-low s w inv n new mine), tt)),
          ((spare-off-gate s w inv n new gate mine stands, tt), (tt, tt)),
        );
      }

  -- no cell stands twice in a purse
  last-two-apart : (rest : List Spare) (right left : Spare) → (w.actors n).purse ≡ rest ++ right ∷ left ∷ [] → right.cell ≢ left.cell
  last-two-apart rest right left spares e =
      let once = i.stocking.purse n right.cell in
      let all : times right.cell (cells_of (w.actors n).purse) ≡ times right.cell (cells_of rest) + times right.cell (right.cell ∷ left.cell ∷ []) =
      ap (λ (xs : List Spare). times right.cell (cells_of xs)) spares ∙ ap (times right.cell) (map-append (λ (x : Spare). x.cell) rest (right ∷ left ∷ [])) ∙ times-append right.cell (cells_of rest) (right.cell ∷ left.cell ∷ []) in
      let both = twice right.cell left.cell (sym e) in
      let one = at-most-one (is_in_purse n (g.owner right.cell)) in
      absurd (omega (arith, once, all, both, one))

  -- the cells of the last two spares

  left-mine : (rest : List Spare) (right left : Spare) → (w.actors n).purse ≡ rest ++ right ∷ left ∷ [] → (y : ℕ) → y ≡ left.cell → Among y (cells_of (w.actors n).purse)
  left-mine rest right left spares y is = subst (λ (z : ℕ). Among z (cells_of (w.actors n).purse)) (sym is) (subst (λ (xs : List Spare). Among left.cell (cells_of xs)) (sym spares) (next-cell-among rest right left))

  right-mine : (rest : List Spare) (right left : Spare) → (w.actors n).purse ≡ rest ++ right ∷ left ∷ [] → (y : ℕ) → y ≡ right.cell → Among y (cells_of (w.actors n).purse)
  right-mine rest right left spares y is = subst (λ (z : ℕ). Among z (cells_of (w.actors n).purse)) (sym is) (subst (λ (xs : List Spare). Among right.cell (cells_of xs)) (sym spares) (cell-among rest right (left ∷ [])))

  -- what the end of a split holds beside the registry, the stock and the ledger
  split-held : (y gate left right : ℕ) (registry stock ledger : CellValue) → CanFinishSplit (w.cells y) gate left right registry stock ledger (w.actors n) → CanHoldAll s w n (y ∷ gate ∷ left ∷ right ∷ [])
  split-held y gate left right registry stock ledger k =
      let stands = up-stands gate registry stock ledger k.up in
      let left_mine = left-mine k.rest k.right_spare k.left_spare k.spares left k.left_cell in
      let right_mine = right-mine k.rest k.right_spare k.left_spare k.spares right k.right_cell in
      let off = map-off-stock s w inv n y (k.up.job).worker in
      record {
        each = (hold-map s w inv n y (k.up.job).worker k.table_is, (lend-gate s w g i n ⊤ gate stands, (hold-spare s w inv n left left_mine, (hold-spare s w inv n right right_mine, tt))));
        apart = (
          (off gate k.table_is (gate-low s w g i gate stands), (off left k.table_is (spare-low s w inv n left left_mine), (off right k.table_is (spare-low s w inv n right right_mine), tt))),
          (
            (spare-off-gate s w inv n left gate left_mine stands, (spare-off-gate s w inv n right gate right_mine stands, tt)),
            (((λ e. last-two-apart k.rest k.right_spare k.left_spare k.spares (sym k.right_cell ∙ e ∙ k.left_cell)), tt), (tt, tt)),
          ),
        );
      }

  -- All of them.

  up-three : (gate : ℕ) (registry stock ledger : CellValue) → IsBuiltUp gate registry stock ledger (w.actors n) → 3 ≤ gate
  up-three gate registry stock ledger k = (let low = up-low gate registry stock ledger k in omega (arith, low))

  mine-three : (y : ℕ) → Among y (cells_of (w.actors n).purse) → 3 ≤ y
  mine-three y mine = (let low = spare-low s w inv n y mine in omega (arith, low))

  pub job-held : ReadableLaw → (step : JobStep) → IsJobAsked s w n step → CanHoldAll s w n (numbers (job_places step))
  job-held readable (job.ReadLoad map gate workers) k = led-gate-held s w inv n map (k.load).worker (k.load).shard gate k.map_is k.leads
  job-held readable (job.Freeze map gate) k =
      freeze-held s w inv n map (k.job).worker (k.job).shard gate (ap tag_of (k.leads).was) (ap (λ (c : CellValue). where_in c (k.job).shard) (k.leads).was ∙ (k.leads).leads)
  job-held readable (job.Drained gate) k = one-gate s w inv n k.job _ k.has k.frozen refl gate k.here
  job-held readable (job.CollectBlock block) k = noted-held s w inv n readable block k
  job-held readable (job.CollectRow gate) k = one-gate s w inv n k.job _ k.has (k.collecting).frozen refl gate k.here
  job-held readable (job.BuildTrees gate) k = one-gate s w inv n k.job _ k.has (k.collecting).frozen refl gate k.here
  job-held readable (job.BuildBlock cell) k = unbuilt-held s w inv n cell k
  job-held readable (job.FinishSplit map gate left right) k =
      hold-with-three s w inv n (map ∷ gate ∷ left ∷ right ∷ []) (split-held map gate left right _ _ _ k) (
        (map-low s w inv n map (k.up.job).worker k.table_is).0,
        (
          up-three gate _ _ _ k.up,
          (
            mine-three left (left-mine k.rest k.right_spare k.left_spare k.spares left k.left_cell),
            (mine-three right (right-mine k.rest k.right_spare k.left_spare k.spares right k.right_cell), tt),
          ),
        ),
      )
  job-held readable (job.FinishMove from to gate new) k =
      hold-with-three s w inv n (from ∷ to ∷ gate ∷ new ∷ []) (move-held from to gate new (k.moved.up.job).worker (k.moved).worker _ _ _ k.moved k.from_is k.to_is k.elsewhere) (
        (map-low s w inv n from (k.moved.up.job).worker k.from_is).0,
        ((map-low s w inv n to (k.moved).worker k.to_is).0, (up-three gate _ _ _ k.moved.up, (mine-three new (new-mine gate new _ _ _ k.moved), tt))),
      )
  job-held readable (job.FinishHere map gate new) k =
      hold-with-three s w inv n (map ∷ gate ∷ new ∷ []) (here-held map gate new (k.moved).worker _ _ _ k.moved k.table_is)
      ((map-low s w inv n map (k.moved).worker k.table_is).0, (up-three gate _ _ _ k.moved.up, (mine-three new (new-mine gate new _ _ _ k.moved), tt)))
  job-held readable job.Postpone k = hold-two s w inv n stock_cell ledger_cell TheStock TheLedger (i.numbering.tag stock_cell) (i.numbering.tag ledger_cell) (λ e. cc) (λ e. cc) (λ e. cc)

  -- So they are prepared.
  pub job-prepared : ReadableLaw → n < actor_count s → (step : JobStep) → IsJobAsked s w n step → IsJobPrepared s w n step
  job-prepared readable lt step asked = prepared s w inv n (job_places step) (job_asks step s.hierarchy) lt (job-held readable step asked) asked

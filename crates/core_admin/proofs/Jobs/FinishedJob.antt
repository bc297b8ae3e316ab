-- A job that has built all blocks and is at its end: its frozen gate, and the rows from which it has built, beside those that came to
-- the queue later.
use Rattle.std.proofs.{Common.{◌≡◌, ℕ, zero, suc, ◌+◌, ◌≤◌, Bool, true, false, cond, eqb, List, [], ◌∷◌, ◌++◌, take, drop, Some, IsSome, refl, sym, ap, ◌∙◌, subst, inl, inr, arith}, lemmas.Bool.eqb-true, lemmas.List.map-append}
use Rattle.dim_hierarchy.specs.{Rows.IsRowOf, declared.row.Row.Row}
use Rattle.core_tree.specs.link_descent.specs.declared.entered.Fresh.{Fresh}
use Rattle.row_ledger.specs.{Shards.is_live, Workers.is_on}
use Rattle.core_tree.specs.shard_store.specs.{declared.gate.Gate.Gate, declared.gate.Phase.TheVariants.{Frozen, Gone}}
use Rattle.list_words.specs.Counts.{Among, Each, same, times}
use Rattle.list_words.proofs.{Each.{each-both, each-append, each-here, each-left, each-right}, Times.{times-append, same_is}}
use Rattle.core_tree.specs.tree_shape.specs.{Collecting.AfterCollecting, Laws.CollectEndLaw, Shape.numbers}
use Rattle.core_tree.specs.volap_cell.specs.{AdminKinds.{spent_by, spent_in}, Cells.{GateCell, phase_of, queue_in}, Ghost.{AGate, Ghost, InJob, InPurse, InTree, NotOfStock, Owner, Unused, is_in_job}, Growing.table_of, Invariant.InvWith, Setting.Setting, Stocking.{IsWhole, cells_at, spent_of}, Values.{BuildingValue, Builds, JobValue}, View.{View, row_or, view}, Working.{IsBuilding, IsFrozenFor, frozen_in}, World.World}
use Rattle.core_admin.proofs.{Building.NewTree.is-true, Collecting.SoFar.begun-named}

-- Lists.

both-parts : {A : Type 0} (k : ℕ) (xs : List A) → take k xs ++ drop k xs ≡ xs
both-parts zero [] = refl
both-parts zero (x ∷ xs) = refl
both-parts (suc k) [] = refl
both-parts (suc k) (x ∷ xs) = ap (λ (ys : List _). x ∷ ys) (both-parts k xs)

-- rows in two parts of a list
rows-parts : (r k : ℕ) (rows : List Row) → times r (numbers rows) ≡ times r (numbers (take k rows)) + times r (numbers (drop k rows))
rows-parts r k rows = ap (λ (xs : List Row). times r (numbers xs)) (sym (both-parts k rows)) ∙ ap (times r) (map-append (λ (x : Row). x.no) (take k rows) (drop k rows)) ∙ times-append r (numbers (take k rows)) (numbers (drop k rows))

among-numbers : (x : Row) (rows : List Row) → Among x rows → 1 ≤ times x.no (numbers rows)
among-numbers x [] m = absurd m
among-numbers x (y ∷ rows) m = elim m [
  | inl is ↦ (let one = same_is x.no y.no (ap (λ (z : Row). z.no) is) in omega (arith, one))
  | inr more ↦ (let some = among-numbers x rows more in omega (arith, some))
]

at-most-one : (a b : Bool) → cond a (cond b 1 0) 0 ≤ 1
at-most-one true true = omega arith
at-most-one true false = omega arith
at-most-one false b = omega arith

-- a cell that is meant for a block of the actor's job
pub is-job-cell : (n : ℕ) (o : Owner) → 1 ≤ cond (is_in_job n o) 1 0 → o ≡ InJob n
is-job-cell n (InJob a) le = ap InJob (eqb-true a n (is-true (eqb a n) 1 le))
is-job-cell n NotOfStock le = absurd (omega (arith, le))
is-job-cell n Unused le = absurd (omega (arith, le))
is-job-cell n AGate le = absurd (omega (arith, le))
is-job-cell n (InTree k) le = absurd (omega (arith, le))
is-job-cell n (InPurse k) le = absurd (omega (arith, le))

module _ (s : Setting) (w : World) (g : Ghost) (i : InvWith s (view s w) g) (n : ℕ) (job : JobValue) (building : BuildingValue) (has : (w.actors n).job ≡ Some job) (stage : job.stage ≡ Builds building) (in_cells : building.unbuilt ≡ [])
    (gate : Gate) (here : w.cells building.frozen.gate ≡ GateCell gate) (upto : ℕ) (frozen_at : gate.phase ≡ Frozen upto) where
  abbrev pub v : View
  v = view s w

  -- the cell of the old gate
  abbrev pub old : ℕ
  old = building.frozen.gate

  pub was : IsBuilding s v.history v.blocks v.made v.trees v.queues v.phases v.active g.shape (v.purses n) building
  was = i.working.building n job building has stage

  pub frozen : IsFrozenFor s v.trees v.phases g.gate (v.purses n) job building.frozen
  frozen = i.working.frozen n job building.frozen has (ap frozen_in stage)

  pub front : is_on s.workers v.history job.shard job.worker ≡ true
  front = i.working.front n job has

  pub is-gate : v.gates old ≡ Some job.shard
  is-gate = ap v.gates frozen.gate_is ∙ (i.lineage.gate_of job.shard job.worker front).1

  pub phase-here : v.phases old ≡ Some (Frozen was.upto)
  phase-here = was.phase_is

  stands : v.phases old ≡ Some Gone → ⊥
  stands gone = (let no : Some (Frozen was.upto) ≡ Some Gone = sym phase-here ∙ gone in cc)

  pub whole : IsWhole v.gates v.phases v.pins old
  whole = (subst IsSome (sym is-gate) refl, inl stands)

  upto-is : was.upto ≡ upto
  upto-is = (let both : Some (Frozen was.upto) ≡ Some (Frozen upto) = sym phase-here ∙ ap phase_of here ∙ ap Some frozen_at in cc)

  queue-here : v.queues old ≡ gate.queue
  queue-here = ap queue_in here

  abbrev pub rows : List Row
  rows = was.at_blocks ++ take was.upto (v.queues old).rows

  abbrev pub late : List Row
  late = drop was.upto (v.queues old).rows

  pub late-is : drop upto gate.queue.rows ≡ late
  late-is = (let k = sym upto-is in let queue = sym queue-here in λ j. drop (k j) (queue j).rows)

  pub spent-is : spent_of (v.jobs n) ≡ spent_by was.built
  spent-is = ap spent_of has ∙ ap spent_in stage ∙ was.trees_are.spent ∙ ap (λ (fs : List Fresh). spent_by (fs ++ was.built)) in_cells

  pub live : is_live s.workers v.history job.shard ≡ true
  live = (i.lineage.live old job.shard is-gate stands).0

  -- Rows.

  pub places : (r : ℕ) → cond ((g.shape old).placed r) 1 0 + times r (numbers (v.queues old).rows) ≡ cond (g.placed r) (same (g.home r) job.shard) 0
  places r = subst (λ (y : ℕ). cond ((g.shape y).placed r) 1 0 + times r (numbers (v.queues y).rows) ≡ cond (g.placed r) (same (g.home r) job.shard) 0) (sym frozen.gate_is) (i.placing.one job.shard r live)

  module _ (ends : CollectEndLaw) where
    named : Each (λ (r : Row). v.row r.no ≡ r) was.at_blocks
    named = begun-named v.history was.at_blocks was.named

    pub read : AfterCollecting (table_of s v.row) (cells_at v.blocks v.trees old) (g.shape old) building.read (numbers was.at_blocks)
    read = ends (table_of s v.row) (cells_at v.blocks v.trees old) (g.shape old) building.read (numbers was.at_blocks) (i.growing.tree old whole) was.read

    rows-times : (r : ℕ) → times r (numbers rows) ≡ cond ((g.shape old).placed r) 1 0 + times r (numbers (take was.upto (v.queues old).rows))
    rows-times r =
        let k = read.rows r in
        let l : times r (numbers rows) ≡ times r (numbers was.at_blocks) + times r (numbers (take was.upto (v.queues old).rows)) =
        ap (times r) (map-append (λ (z : Row). z.no) was.at_blocks (take was.upto (v.queues old).rows)) ∙ times-append r (numbers was.at_blocks) (numbers (take was.upto (v.queues old).rows)) in
        omega (arith, k, l)

    -- all rows of the shard, those that were built and those that came later
    pub all-rows : (r : ℕ) → times r (numbers rows) + times r (numbers late) ≡ cond (g.placed r) (same (g.home r) job.shard) 0
    all-rows r = (let k = rows-times r in let l = rows-parts r was.upto (v.queues old).rows in let p = places r in omega (arith, k, l, p))

    -- each is once there, and has passed a gate
    pub once : (r : ℕ) → times r (numbers rows) ≤ 1
    once r = (let k = all-rows r in let m = at-most-one (g.placed r) (eqb (g.home r) job.shard) in omega (arith, k, m))

    parts-named : Each (λ (r : Row). v.row r.no ≡ r) (take was.upto (v.queues old).rows) × Each (λ (r : Row). v.row r.no ≡ r) late
    parts-named =
        let all = subst (Each (λ (r : Row). v.row r.no ≡ r)) (sym (both-parts was.upto (v.queues old).rows)) (i.queueing.named old whole.0) in
        (each-left (λ (r : Row). v.row r.no ≡ r) (take was.upto (v.queues old).rows) late all, each-right (λ (r : Row). v.row r.no ≡ r) (take was.upto (v.queues old).rows) late all)

    pub late-named : Each (λ (r : Row). v.row r.no ≡ r) late
    late-named = parts-named.1

    pub rows-named : Each (λ (r : Row). v.row r.no ≡ r) rows
    rows-named = each-append (λ (r : Row). v.row r.no ≡ r) was.at_blocks (take was.upto (v.queues old).rows) named parts-named.0

    -- a row of its name that the shard has is that of an insert
    begun-row : (r : Row) → g.placed r.no ≡ true → v.row r.no ≡ r → IsRowOf s.hierarchy r
    begun-row r placed is =
        let begun = i.placing.begun r.no placed in
        let its : begun.0.row ≡ r = sym (ap row_or begun.1) ∙ is in
        subst (IsRowOf s.hierarchy) its (i.telling.rows r.no begun.0 begun.1).0

    pub placed-row : (r : ℕ) → 1 ≤ times r (numbers rows) + times r (numbers late) → g.placed r ≡ true
    placed-row r some = (let k = all-rows r in is-true (g.placed r) (same (g.home r) job.shard) (omega (arith, k, some)))

    pub rows-placed : Each (λ (r : Row). g.placed r.no ≡ true) rows
    rows-placed = each-here (λ (r : Row). g.placed r.no ≡ true) rows (λ r m. let some = among-numbers r rows m in placed-row r.no (omega (arith, some)))

    pub late-placed : Each (λ (r : Row). g.placed r.no ≡ true) late
    late-placed = each-here (λ (r : Row). g.placed r.no ≡ true) late (λ r m. let some = among-numbers r late m in placed-row r.no (omega (arith, some)))

    pub rows-valid : Each (IsRowOf s.hierarchy) rows
    rows-valid = each-both (λ (r : Row). g.placed r.no ≡ true) (λ (r : Row). v.row r.no ≡ r) (IsRowOf s.hierarchy) rows begun-row rows-placed rows-named

    pub late-valid : Each (IsRowOf s.hierarchy) late
    late-valid = each-both (λ (r : Row). g.placed r.no ≡ true) (λ (r : Row). v.row r.no ≡ r) (IsRowOf s.hierarchy) late begun-row late-placed late-named

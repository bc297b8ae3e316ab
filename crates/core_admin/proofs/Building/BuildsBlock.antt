-- A block of a new tree goes to its cell: that keeps the invariant, and less is left.
use Rattle.std.proofs.{Common.{◌≡◌, ◌≢◌, ℕ, ◌+◌, ◌*◌, ◌<◌, ◌≤◌, true, eqb, List, [], ◌∷◌, ◌++◌, length, map, Option, Some, None, IsSome, refl, sym, ap, ◌∙◌, subst, inl, inr, arith, append_assoc}, lemmas.Bool.{eqb-true, eqb-false}, lemmas.List.{length-append, map-append}}
use Rattle.std.specs.Prelude.{take}
use Rattle.cell_stock.specs.{Stock.cells_of, declared.purse.Spare.Spare}
use Rattle.dc_node.specs.declared.block.Block.{Block}
use Rattle.dim_hierarchy.specs.Dimension.{Dimension}
use Rattle.core_tree.specs.link_descent.specs.declared.entered.Fresh.{Fresh}
use Rattle.row_ledger.specs.Workers.{is_on}
use Rattle.list_words.specs.Counts.{Among, Each, times}
use Rattle.list_words.proofs.{Each.{each-both, each-map, among-right, each-here, each-among}, Times.{times-append, same_is}, Truth.on_bool}
use Rattle.core_tree.specs.tree_shape.specs.{Laws.{CollectOtherLaw, OtherLaw}, Shape.{nodes, numbers}, Steps.AreApart}
use Rattle.core_tree.specs.volap_cell.specs.{AdminKinds.{DoesBuildBlock, IsBuiltOf, spent_by, spent_in}, Cells.{BlockCell, CellValue, block_in, has_block}, Falls.{control_of, job_left, left, of_work, plenty, stage_left}, Ghost.{Ghost, InJob, InTree}, Growing.table_of, Invariant.InvWith, Setting.Setting, Steps.{IsKept, Keeps, Makes}, Stocking.{IsWhole, LeavesStamp, Stamping, Stocking, all_spares, cells_at, items_in, items_of_job, spent_of}, Values.{ActorValue, BuildingValue, Builds, Collects, IsDeclined, JobValue, StageValue, building_of, job_of, stage_of}, View.{View, view}, Working.{IsBuilding, IsCollected, IsDeclinedFor, IsFrozenFor, IsJobOf, Working, frozen_in}, World.{Agrees, Change, World, after, change}, declared.command.Command.Command, declared.job.Building.Building, declared.job.Frozen.Frozen, declared.job.Job.Job, declared.job.Stage.Stage, declared.job.Unbuilt.Unbuilt}
use Rattle.core_tree.specs.volap_cell.specs.declared.job.Stage.TheVariants as stage_is
use Rattle.core_tree.specs.volap_cell.specs.declared.kind.Kind.TheVariants as kind
use Rattle.core_tree.specs.volap_cell.proofs.{Cells.Blanks.spent-owner, Cells.Spares.{among-cells, build-blank}, OneEvent.Reads.{pinned-whole, readers-take}, Views.Admin.{by_build_block, view-build_block}, Views.Fields.IsNewAt, Views.Frames.{actor-at, actor-off, elsewhere, first}, Views.Seen.renewed}
use Rattle.core_tree.proofs.{Stocks.Spares.spares-distinct, Stocks.Stamps.distinct-stamps}
use Rattle.core_image.proofs.{Commands.Jobs.{stamping-alike, stocking-alike}, Lessens.Remains.control-changed}
use Rattle.core_admin.specs.FinishDue.{BuildsNext, CanBuildBlock, IsUnbuilt}
use Rattle.core_admin.proofs.{Jobs.JobsGoOn.{balancing-on, its-job, job-alike, numbering-on, telling-on, there as is-there}, Untouched.{expects-off, growing-off, leaves as leaves-off, querying-off, spares-off}}

-- the spare of a block is among those of all blocks
pub among-spent : (f : Fresh) (fs : List Fresh) → Among f fs → Among (record { cell = f.cell; stamp = f.block.stamp }) (spent_by fs)
among-spent f [] m = absurd m
among-spent f (x ∷ fs) m = elim m [ inl is ↦ inl (ap (λ (z : Fresh). record { cell = z.cell; stamp = z.block.stamp }) is) | inr more ↦ inr (among-spent f fs more) ]

-- among blocks of which none stands in this cell
off-cell : (y : ℕ) (fs : List Fresh) → times y (cells_of (spent_by fs)) ≡ 0 → Each (λ f. f.cell ≢ y) fs
off-cell y [] none = tt
off-cell y (f ∷ fs) none = ((λ e. let one = same_is y f.cell (sym e) in absurd (omega (arith, none, one))), off-cell y fs (omega (arith, none)))

module _ (c : Change) (b : ActorValue) (s : Setting) (w : World) (n : ℕ) (g : Ghost) (other : OtherLaw) (collects : CollectOtherLaw) (i : InvWith s (view s w) g) (ag : Agrees w (c ∷ []) n (w.actors n)) (d : DoesBuildBlock c (w.actors n) b) where
  abbrev v : View
  v = view s w

  abbrev w2 : World
  w2 = after w (c ∷ []) n b

  abbrev u : View
  u = view s w2

  abbrev v2 : View
  v2 = renewed by_build_block u v

  same : u ≡ v2
  same = view-build_block s w n c (w.actors n) b ag d (build-blank s w g i n c (w.actors n) b ag d)

  abbrev now : BuildingValue
  now = record d.building { unbuilt = d.others }

  abbrev job_now : JobValue
  job_now = record d.job { stage = Builds now }

  new : IsNewAt v2.jobs v.jobs n (Some d.job) (Some job_now)
  new = record {
    was_there = d.has.is_job;
    is_there = ap (λ (a : ActorValue). a.job) (actor-at w.actors n b) ∙ ap (λ (a : ActorValue). a.job) d.actor_is;
    elsewhere = λ a ne. ap (λ (a : ActorValue). a.job) (actor-off w.actors n b a ne);
  }

  -- What was built.

  was : IsBuilding s v.history v.blocks v.made v.trees v.queues v.phases v.active g.shape (v.purses n) d.building
  was = i.working.building n d.job d.building d.has.is_job d.has.stage_is

  spent-is : spent_of (v.jobs n) ≡ spent_by (d.others ++ d.next ∷ was.built)
  spent-is = ap spent_of d.has.is_job ∙ ap spent_in d.has.stage_is ∙ was.trees_are.spent ∙ ap (λ (fs : List Fresh). spent_by (fs ++ was.built)) d.unbuilt ∙ ap spent_by (append_assoc d.others (d.next ∷ []) was.built)

  -- the spare that the block took
  abbrev spare : Spare
  spare = record { cell = d.next.cell; stamp = d.next.block.stamp }

  among : Among spare (spent_of (v.jobs n))
  among = subst (Among spare) (sym spent-is) (among-spent d.next (d.others ++ d.next ∷ was.built) (among-right d.others (d.next ∷ was.built) d.next (inl refl)))

  owner : g.owner c.number ≡ InJob n
  owner = ap g.owner (sym d.here) ∙ spent-owner s w g i n d.next.cell (among-cells spare (spent_of (v.jobs n)) among)

  -- each cell has one block of the job at most
  apart : Each (λ f. f.cell ≢ d.next.cell) was.built
  apart = off-cell d.next.cell was.built (
      let y = d.next.cell in
      let all : times y (cells_of (spent_of (v.jobs n))) ≡ times y (cells_of (spent_by d.others)) + times y (cells_of (spent_by (d.next ∷ was.built))) =
      ap (λ (xs : List Spare). times y (cells_of xs)) (spent-is ∙ map-append (λ (f : Fresh). record { cell = f.cell; stamp = f.block.stamp }) d.others (d.next ∷ was.built))
      ∙ ap (times y) (map-append (λ (x : Spare). x.cell) (spent_by d.others) (spent_by (d.next ∷ was.built))) ∙ times-append y (cells_of (spent_by d.others)) (cells_of (spent_by (d.next ∷ was.built))) in
      let mine = same_is y y refl in
      let few = at-most (v.jobs n) y in
      omega (arith, all, mine, few))
    where
      at-most : (job : Option JobValue) (y : ℕ) → times y (cells_of (spent_of (v.jobs n))) ≤ 1
      at-most job y = (let k = i.stocking.job n y in grind arith)

  -- Blocks.

  block-off : (y : ℕ) → y ≢ c.number → v2.blocks y ≡ v.blocks y
  block-off y ne = ap block_in (elsewhere (c ∷ []) w.cells y (ne, tt))

  made-off : (y : ℕ) → y ≢ c.number → v2.made y ≡ v.made y
  made-off y ne = ap has_block (elsewhere (c ∷ []) w.cells y (ne, tt))

  filled : w2.cells c.number ≡ BlockCell d.next.block
  filled = first c [] w.cells ∙ d.filled

  made-on : (y : ℕ) → v.made y ≡ true → v2.made y ≡ true
  made-on y is = on_bool (eqb y c.number)
      (λ q. ap v2.made (eqb-true y c.number q) ∙ ap has_block filled)
      (λ q. made-off y (eqb-false y c.number q) ∙ is)

  off : (y x : ℕ) → IsWhole v.gates v.phases v.pins x → g.owner y ≡ InTree x → v2.blocks y ≡ v.blocks y
  off y x whole is = block-off y (λ e. let no : InTree x ≡ InJob n = sym is ∙ ap g.owner e ∙ owner in cc)

  trees-off : (x : ℕ) → IsWhole v.gates v.phases v.pins x → v2.trees x ≡ v.trees x
  trees-off x whole = refl

  spent-same : (a : ℕ) → spent_of (v2.jobs a) ≡ spent_of (v.jobs a)
  spent-same a = on_bool (eqb a n)
      (λ q. let e = eqb-true a n q in ap spent_of (ap v2.jobs e ∙ new.is_there) ∙ sym (ap spent_of (ap v.jobs e ∙ new.was_there) ∙ ap spent_in d.has.stage_is))
      (λ q. ap spent_of (new.elsewhere a (eqb-false a n q)))

  items-same : (a : ℕ) → items_of_job (v2.jobs a) ≡ items_of_job (v.jobs a)
  items-same a = on_bool (eqb a n)
      (λ q. let e = eqb-true a n q in ap items_of_job (ap v2.jobs e ∙ new.is_there) ∙ sym (ap items_of_job (ap v.jobs e ∙ new.was_there) ∙ ap items_in d.has.stage_is))
      (λ q. ap items_of_job (new.elsewhere a (eqb-false a n q)))

  stocking-now : Stocking s v.stock v2.made v.gates v.phases v.pins v.gone v.purses v2.jobs g.owner g.shape
  stocking-now =
      let k = stocking-alike s v.jobs v2.jobs v.purses spent-same v.stock v.made v.gates v.phases v.pins v.gone g.owner g.shape i.stocking in record {
        valid = k.valid;
        count = k.count;
        within = k.within;
        every = k.every;
        unused = k.unused;
        purse = k.purse;
        job = k.job;
        gate = k.gate;
        gate_back = k.gate_back;
        tree = λ x y whole inside ne. let o = k.tree x y whole inside ne in (o.0, made-on y o.1);
        tree_back = k.tree_back;
        gone_cells = k.gone_cells;
        none_gone = k.none_gone;
      }

  -- The shard of the job is frozen.

  frozen-was : IsFrozenFor s v.trees v.phases g.gate (v.purses n) d.job d.building.frozen
  frozen-was = i.working.frozen n d.job d.building.frozen d.has.is_job (ap frozen_in d.has.stage_is)

  whole : IsWhole v.gates v.phases v.pins d.building.frozen.gate
  whole =
      let at = i.lineage.gate_of d.job.shard d.job.worker (i.working.front n d.job d.has.is_job) in
      subst (IsWhole v.gates v.phases v.pins) (sym frozen-was.gate_is) (subst IsSome (sym at.1) refl, inl at.2)

  -- Stamps. The block has its spare's, which no other block has and no other spare.

  among-all : Among spare (all_spares v.purses v.jobs n)
  among-all = among-right (v.purses n) (spent_of (v.jobs n)) spare among

  of-spare : (P : Spare → Type 0) → Each P (all_spares v.purses v.jobs n) → P spare
  of-spare P all = each-among P spare (all_spares v.purses v.jobs n) all among-all

  stamp-at : (y : ℕ) → y ≡ c.number → (v2.blocks y).stamp ≡ d.next.block.stamp
  stamp-at y e = ap (λ (z : ℕ). (v2.blocks z).stamp) e ∙ ap (λ (x : CellValue). (block_in x).stamp) filled

  old-block : (y : ℕ) → y ≢ c.number → v2.made y ≡ true → (v.made y ≡ true) × ((v2.blocks y).stamp ≡ (v.blocks y).stamp)
  old-block y ne is = (sym (made-off y ne) ∙ is, ap (λ (x : Block). x.stamp) (block-off y ne))

  -- another block has another stamp
  other-stamp : (y : ℕ) → y ≢ c.number → v2.made y ≡ true → (v2.blocks y).stamp ≢ d.next.block.stamp
  other-stamp y ne is e =
      let old = old-block y ne is in
      of-spare (LeavesStamp y (v.blocks y).stamp) (i.stamping.unspared n y old.0) (λ k. ne (k ∙ d.here)) (sym old.1 ∙ e)

  blocks-apart : (y z : ℕ) → y ≢ z → v2.made y ≡ true → v2.made z ≡ true → (v2.blocks y).stamp ≢ (v2.blocks z).stamp
  blocks-apart y z ne my mz e = on_bool (eqb y c.number)
      (λ q. let at = eqb-true y c.number q in other-stamp z (λ k. ne (at ∙ sym k)) mz (sym e ∙ stamp-at y at))
      (λ q. let ny = eqb-false y c.number q in
      on_bool (eqb z c.number)
      (λ p. other-stamp y ny my (e ∙ stamp-at z (eqb-true z c.number p)))
      (λ p. let a = old-block y ny my in let b = old-block z (eqb-false z c.number p) mz in i.stamping.blocks_apart y z ne a.0 b.0 (sym a.1 ∙ e ∙ b.1)))

  -- and so has another spare
  spares-apart : (a : ℕ) → Each (LeavesStamp c.number d.next.block.stamp) (all_spares v.purses v.jobs a)
  spares-apart a = on_bool (eqb a n)
      (λ q. subst (λ (z : ℕ). Each (LeavesStamp c.number d.next.block.stamp) (all_spares v.purses v.jobs z)) (sym (eqb-true a n q))
      (each-here (LeavesStamp c.number d.next.block.stamp) (all_spares v.purses v.jobs n) (λ x there ne. distinct-stamps (all_spares v.purses v.jobs n) spare x
      (spares-distinct (g.shape d.building.frozen.gate) (nodes (cells_at v.blocks v.trees d.building.frozen.gate)) (all_spares v.purses v.jobs n) (i.stamping.spare n d.building.frozen.gate whole))
      among-all there (λ e. ne (sym d.here ∙ e)))))
      (λ q. each-map (AreApart spare) (LeavesStamp c.number d.next.block.stamp) (all_spares v.purses v.jobs a) (λ x apart ne. apart.1)
      (of-spare (λ (x : Spare). Each (AreApart x) (all_spares v.purses v.jobs a)) (i.stamping.apart n a (λ e. eqb-false a n q (sym e)))))

  unspared-now : (a y : ℕ) → v2.made y ≡ true → Each (LeavesStamp y (v2.blocks y).stamp) (all_spares v.purses v.jobs a)
  unspared-now a y is = on_bool (eqb y c.number)
      (λ q. let at = eqb-true y c.number q in
      subst (λ (stamp : ℕ). Each (LeavesStamp y stamp) (all_spares v.purses v.jobs a)) (sym (stamp-at y at))
      (subst (λ (z : ℕ). Each (LeavesStamp z d.next.block.stamp) (all_spares v.purses v.jobs a)) (sym at) (spares-apart a)))
      (λ q. let old = old-block y (eqb-false y c.number q) is in
      subst (λ (stamp : ℕ). Each (LeavesStamp y stamp) (all_spares v.purses v.jobs a)) (sym old.1) (i.stamping.unspared a y old.0))

  stamping-now : Stamping v.stock v2.blocks v2.made v.trees v.gates v.phases v.pins v.purses v.reads v2.jobs g.shape
  stamping-now =
      let k = stamping-alike v.jobs v2.jobs v.purses spent-same items-same v.stock v.blocks v.made v.trees v.gates v.phases v.pins v.reads g.shape i.stamping in record {
        blocks_given = λ y is. on_bool (eqb y c.number)
            (λ q. let at = stamp-at y (eqb-true y c.number q) in let low = of-spare (λ (x : Spare). x.stamp < v.stock.stamps) (i.stamping.given n) in omega (arith, at, low))
            (λ q. let old = old-block y (eqb-false y c.number q) is in let low = i.stamping.blocks_given y old.0 in let same_stamp = old.1 in omega (arith, low, same_stamp));
        blocks_apart = blocks-apart;
        unspared = λ a y is. subst (λ (xs : List Spare). Each (LeavesStamp y (v2.blocks y).stamp) (v.purses a ++ xs)) (sym (spent-same a)) (unspared-now a y is);
        given = k.given;
        apart = k.apart;
        spare = λ a x whole. spares-off s v g other i v2.blocks v2.trees off trees-off x whole (all_spares v.purses v2.jobs a) (k.spare a x whole);
        waits = k.waits;
        fresh = λ x stamp whole le. expects-off s v g other i v2.blocks v2.trees off trees-off x stamp whole (k.fresh x stamp whole le);
        fresh_waits = k.fresh_waits;
      }

  -- The job.

  frozen-now : (f : Frozen) → d.building.frozen ≡ f → IsFrozenFor s v.trees v.phases g.gate (v.purses n) job_now f
  frozen-now f is = subst (IsFrozenFor s v.trees v.phases g.gate (v.purses n) job_now) is (record {
    gate_is = frozen-was.gate_is;
    upto = frozen-was.upto;
    phase_is = frozen-was.phase_is;
    rows = frozen-was.rows;
    cells = ap (λ (st : StageValue). length (v.purses n) + length (spent_in st)) (sym d.has.stage_is) ∙ frozen-was.cells;
    split = frozen-was.split;
    move = frozen-was.move;
    plane = frozen-was.plane;
  })

  building-now : IsBuilding s v.history v2.blocks v2.made v.trees v.queues v.phases v.active g.shape (v.purses n) now
  building-now = record {
    drained = was.drained;
    upto = was.upto;
    phase_is = was.phase_is;
    at_blocks = was.at_blocks;
    named = was.named;
    read = collects (table_of s v.row) (g.shape d.building.frozen.gate) (cells_at v.blocks v.trees d.building.frozen.gate) (cells_at v2.blocks v.trees d.building.frozen.gate) [] d.building.read (numbers was.at_blocks)
        (i.growing.tree d.building.frozen.gate whole) (leaves-off s v g other i v2.blocks v2.trees off trees-off d.building.frozen.gate whole) was.read;
    built = d.next ∷ was.built;
    purse_was = was.purse_was;
    purse_now = was.purse_now;
    purse_is = was.purse_is;
    trees_are = subst (λ (fs : List Fresh). IsBuiltOf s.hierarchy d.building.frozen.plane (was.at_blocks ++ take was.upto (v.queues d.building.frozen.gate).rows) was.purse_was was.purse_now (record d.building { unbuilt = fs }))
        (ap (λ (fs : List Fresh). fs ++ was.built) d.unbuilt ∙ append_assoc d.others (d.next ∷ []) was.built) was.trees_are;
    in_cells = (
      (ap (λ (y : ℕ). v2.blocks y) d.here ∙ ap block_in filled, ap (λ (y : ℕ). v2.made y) d.here ∙ ap has_block filled),
      each-both (λ (f : Fresh). f.cell ≢ d.next.cell) (λ (f : Fresh). (v.blocks f.cell ≡ f.block) × (v.made f.cell ≡ true)) (λ (f : Fresh). (v2.blocks f.cell ≡ f.block) × (v2.made f.cell ≡ true)) was.built
          (λ f ne is. (block-off f.cell (λ e. ne (e ∙ sym d.here)) ∙ is.0, made-on f.cell is.1)) apart was.in_cells,
    );
  }

  working-now : Working s v.history v2.blocks v2.made v.trees v.phases v.active v.queues v.purses v.commands v2.jobs g.gate g.shape g.placed
  working-now =
      let k = i.working in
      let on = its-job s v g i n d.job (Builds now) v2.jobs new in
      record {
        command = on (λ a j. (c : Command) × (v.commands a ≡ Some c) × IsJobOf c.work j)
            (let o = k.command n d.job d.has.is_job in (o.0, o.1, job-alike o.0.work d.job (Builds now) o.2));
        front = on (λ a j. is_on s.workers v.history j.shard j.worker ≡ true) (k.front n d.job d.has.is_job);
        to = λ a worker j is. on (λ a j. j.to ≡ Some worker → worker < s.workers) (k.to n worker d.job d.has.is_job) a j is;
        unspent = λ a j is. on (λ a j. frozen_in j.stage ≡ None → v.purses a ≡ []) (λ e. cc) a j is;
        declined = λ a j c why is has st. on (λ a j. j.stage ≡ IsDeclined why → IsDeclinedFor s v.history g.placed c.of j why) (λ e. cc) a j is st;
        frozen = λ a j f is st. on (λ a j. frozen_in j.stage ≡ Some f → IsFrozenFor s v.trees v.phases g.gate (v.purses a) j f) (λ e. frozen-now f (let both : ◌≡◌ {A = Option Frozen} (Some d.building.frozen) (Some f) = e in cc)) a j is st;
        collected = λ a j x is st. on (λ a j. j.stage ≡ Collects x → IsCollected v.history v2.blocks v.trees v.queues v.phases v.active g.shape x) (λ e. cc) a j is st;
        building = λ a j x is st. on (λ a j. j.stage ≡ Builds x → IsBuilding s v.history v2.blocks v2.made v.trees v.queues v.phases v.active g.shape (v.purses a) x)
            (λ e. let both : ◌≡◌ {A = StageValue} (Builds now) (Builds x) = e in let it : now ≡ x = cc in subst (IsBuilding s v.history v2.blocks v2.made v.trees v.queues v.phases v.active g.shape (v.purses n)) it building-now) a j is st;
      }

  holds : InvWith s v2 g
  holds = record {
    numbering = numbering-on s v g i n d.job (Builds now) v2.jobs new;
    telling = telling-on s v g i n d.job (Builds now) v2.jobs new;
    owing = i.owing;
    turning = i.turning;
    stocking = stocking-now;
    stamping = stamping-now;
    lineage = i.lineage;
    leading = i.leading;
    growing = growing-off s v g other i v2.blocks v2.trees off trees-off;
    queueing = i.queueing;
    resting = i.resting;
    placing = i.placing;
    inserting = i.inserting;
    imaging = i.imaging;
    covering = i.covering;
    desking = i.desking;
    pinning = i.pinning;
    querying = querying-off s v g other i v2.blocks v2.trees off trees-off
        (λ a x p is pin. pinned-whole s v.tags v.numbers v.roles v.settings v.counted_in v.purses v.commands v.taken v.jobs v.gates v.phases v.pins v.reads i.numbering (readers-take s w) i.pinning a x p is pin);
    working = working-now;
    balancing = balancing-on s v g i n d.job (Builds now) v2.jobs new;
    reusing = i.reusing;
  }

  control-less : (left s w2 g).control < (left s w g).control
  control-less =
      let control = control-changed s w w2 g n v2 same (λ a ne. actor-off w.actors n b a ne) (inl (is-there s v g i n d.job (Builds now) v2.jobs new)) refl refl in
      let mine : of_work (control_of s) (w.actors n).command + job_left s v (w.actors n).job ≡ of_work (control_of s) (w.actors n).command + (2 * plenty s + 1 + length d.building.unbuilt) =
      ap (λ (j : Option JobValue). of_work (control_of s) (w.actors n).command + job_left s v j) d.has.is_job ∙ ap (λ (st : StageValue). of_work (control_of s) (w.actors n).command + stage_left s v st) d.has.stage_is in
      let its : of_work (control_of s) (w2.actors n).command + job_left s v (w2.actors n).job ≡ of_work (control_of s) (w.actors n).command + (2 * plenty s + 1 + length d.others) =
      ap (λ (z : ActorValue). of_work (control_of s) z.command + job_left s v z.job) (actor-at w.actors n b ∙ d.actor_is) in
      let more : length d.building.unbuilt ≡ length d.others + 1 = ap length d.unbuilt ∙ length-append d.others (d.next ∷ []) in
      omega (arith, control, mine, its, more)

  pub build-kept : IsKept s kind.BuildBlock n w w2 g
  build-kept = record {
    step = record { changes = c ∷ []; actor = b; agrees = ag; does = d; sight = tt; now_is = refl };
    ghost_now = g;
    holds = subst (λ (x : View). InvWith s x g) (sym same) holds;
    newer = [];
    grows = ap (λ (x : View). x.history) same;
    goes_on = inl (inl control-less);
  }

pub build-keeps : OtherLaw → CollectOtherLaw → (h : List Dimension) (c : Change) (a b : ActorValue) (d : DoesBuildBlock c a b) → Keeps h kind.BuildBlock (c ∷ []) a b d
build-keeps other collects h c a b d s w n g about i ag sight =
    build-kept c b s w n g other collects i (record { cells = ag.cells; actor_is = refl; free = λ x ne. ag.free x ne }) (subst (λ (z : ActorValue). DoesBuildBlock c z b) (sym ag.actor_is) d)

-- The call.

-- a list ends with one thing
last-one : {A : Type 0} (xs ys : List A) (x y : A) → xs ++ x ∷ [] ≡ ys ++ y ∷ [] → x ≡ y
last-one [] [] x y e = cc
last-one [] (z ∷ []) x y e = cc
last-one [] (z ∷ t ∷ ys) x y e = cc
last-one (z ∷ []) [] x y e = cc
last-one (z ∷ t ∷ xs) [] x y e = cc
last-one (z ∷ xs) (t ∷ ys) x y e = last-one xs ys x y (let both : z ∷ (xs ++ x ∷ []) ≡ t ∷ (ys ++ y ∷ []) = e in cc)

abbrev fresh_of : Unbuilt → Fresh
fresh_of u = record { cell = u.cell; block = u.block.value }

-- the job builds, and a block of it is next
pub is-unbuilt : (at : ℕ) (a : ActorValue) (job : Job) → CanBuildBlock at a → a.job ≡ Some (job_of job) → IsUnbuilt job
is-unbuilt at a job due has b is none =
    let one : due.job ≡ job_of job = (let both : ◌≡◌ {A = Option JobValue} (Some due.job) (Some (job_of job)) = sym due.has.is_job ∙ has in cc) in
    let stages : ◌≡◌ {A = StageValue} (Builds due.building) (Builds (building_of b)) = sym due.has.stage_is ∙ ap (λ (j : JobValue). j.stage) one ∙ ap stage_of is in
    let building : due.building ≡ building_of b = cc in
    let no : due.others ++ due.next ∷ [] ≡ [] = sym due.unbuilt ∙ ap (λ (k : BuildingValue). k.unbuilt) building ∙ ap (map fresh_of) none in
    let more = sym (length-append due.others (due.next ∷ [])) ∙ ap length no in
    absurd (omega (arith, more))

-- the building stage of the actor's job
pub is-building : (at : ℕ) (a : ActorValue) (job : Job) → CanBuildBlock at a → a.job ≡ Some (job_of job) → (b : Building) × (job.stage ≡ stage_is.Building b)
is-building at a job due has =
    let one : due.job ≡ job_of job = (let both : ◌≡◌ {A = Option JobValue} (Some due.job) (Some (job_of job)) = sym due.has.is_job ∙ has in cc) in
    by job.stage (sym (ap (λ (j : JobValue). j.stage) one) ∙ due.has.stage_is)
  where
    by : (stage : Stage) → stage_of stage ≡ Builds due.building → (b : Building) × (stage ≡ stage_is.Building b)
    by (stage_is.Building b) e = (b, refl)
    by stage_is.Called e = cc
    by (stage_is.Declined why) e = cc
    by (stage_is.Frozen f room) e = cc
    by (stage_is.Collecting x) e = cc

-- what it did, where it was given the cell of the block that is next
pub build-makes : OtherLaw → CollectOtherLaw → (h : List Dimension) (at : ℕ) (cell now : CellValue) (a : ActorValue) (job job_now : Job) → CanBuildBlock at a → a.job ≡ Some (job_of job) → BuildsNext job job_now now
    → Makes h kind.BuildBlock (change at cell now ∷ []) a (record a { job = Some (job_of job_now) })
build-makes other collects h at cell now a job job_now due has builds =
    let (b, is) = is-building at a job due has in
    let (b_now, did, job_is) = builds b is in
    let one : due.job ≡ job_of job = (let both : ◌≡◌ {A = Option JobValue} (Some due.job) (Some (job_of job)) = sym due.has.is_job ∙ has in cc) in
    let stages : ◌≡◌ {A = StageValue} (Builds due.building) (Builds (building_of b)) = sym due.has.stage_is ∙ ap (λ (j : JobValue). j.stage) one ∙ ap stage_of is in
    let building : due.building ≡ building_of b = cc in
    let unbuilt : map fresh_of b.unbuilt ≡ map fresh_of did.others ++ fresh_of did.next ∷ [] = ap (map fresh_of) did.unbuilt ∙ map-append fresh_of did.others (did.next ∷ []) in
    let next : due.next ≡ fresh_of did.next = last-one due.others (map fresh_of did.others) due.next (fresh_of did.next) (sym due.unbuilt ∙ ap (λ (k : BuildingValue). k.unbuilt) building ∙ unbuilt) in
    let does : DoesBuildBlock (change at cell now) a (record a { job = Some (job_of job_now) }) = record {
      job = job_of job;
      building = building_of b;
      has = record { is_job = has; stage_is = ap stage_of is };
      others = map fresh_of did.others;
      next = fresh_of did.next;
      unbuilt = unbuilt;
      here = ap (λ (f : Fresh). f.cell) (sym next) ∙ due.here;
      filled = did.filled;
      actor_is = ap (λ (j : Job). record a { job = Some (job_of j) }) job_is ∙ ap (λ (x : Building). record a { job = Some (record (job_of job) { stage = Builds (building_of x) }) }) did.now;
    } in
    record { does = does; keeps = build-keeps other collects h (change at cell now) a (record a { job = Some (job_of job_now) }) does }

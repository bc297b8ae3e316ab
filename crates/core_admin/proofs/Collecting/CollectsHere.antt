-- What the calls ask for that collect rows of a frozen shard, and what they did.
use Rattle.std.proofs.{Common.{◌≡◌, ℕ, ◌+◌, ◌<◌, true, List, [], ◌∷◌, ◌++◌, length, take, Option, Some, refl, sym, ap, ◌∙◌, subst, inl, inr, arith, IfSome, slice_get}, lemmas.List.{append_assoc, take_more}, lemmas.Option.slice_get_cases}
use Rattle.dim_hierarchy.specs.{Dimension.Dimension, declared.row.Row.Row}
use Rattle.dc_node.specs.{declared.block.Block.Block, declared.todo.Item.Item}
use Rattle.core_tree.specs.shard_store.specs.declared.gate.Gate.{Gate}
use Rattle.core_tree.specs.shard_store.specs.declared.gate.Phase.TheVariants as phase
use Rattle.core_tree.specs.tree_shape.specs.{Collecting.IsCollecting, Laws.{ReadLaw, ReadableLaw}, Shape.numbers}
use Rattle.core_tree.specs.volap_cell.specs.{AdminKinds.{CollectsBlock, CollectsQueued, DoesCollect, HasJob}, Cells.{BlockCell, CellValue, GateCell, has_block, phase_of, queue_in}, Growing.table_of, Steps.{IsHere, Keeps, Makes}, Stocking.cells_at, Values.{ActorValue, CollectingValue, JobValue, Collects}, View.view, World.{Agrees, Change, change, held}, declared.kind.Kind.TheVariants.Collect}
use Rattle.core_admin.specs.CollectDue.{CanCollectBlock, CanCollectRow, CollectsRow, HasMore, HasNoted, ReadsBlock}
use Rattle.core_admin.proofs.{Collecting.CollectsBlocks.{block-kept, none-left}, Collecting.CollectsRows.queued-kept, Collecting.CollectsTrees.all-kept, Collecting.Drains.same-collecting, Collecting.FrozenGates.phase-gate, Collecting.SoFar.{gate-of, so-far}}

pub collect-keeps : ReadableLaw → ReadLaw → (h : List Dimension) (c : Change) (a b : ActorValue) (d : DoesCollect h c a b) → Keeps h Collect (c ∷ []) a b d
collect-keeps readable reads h c a b d s w n g about i ag sight =
    let there : Agrees w (c ∷ []) n (w.actors n) = record { cells = ag.cells; actor_is = refl; free = λ x ne. ag.free x ne } in
    let does : DoesCollect s.hierarchy c (w.actors n) b = subst (λ (z : ActorValue). DoesCollect s.hierarchy c z b) (sym ag.actor_is) (subst (λ (z : List Dimension). DoesCollect z c a b) (sym about) d) in
    elim does [
      | inl block ↦ block-kept readable reads s w n g i c b there block (inl block)
      | inr more ↦ elim more [
        | inl row ↦ queued-kept s w n g i c b there row (inr (inl row))
        | inr all ↦ all-kept s w n g i c b there all (inr (inr all))
      ]
    ]

-- a row more of a leaf
pub one-more : (xs was old now : List Row) (k : ℕ) → k < length xs → IfSome (slice_get xs k) (λ (r : Row). now ≡ old ++ r ∷ []) → old ≡ was ++ take k xs → now ≡ was ++ take (k + 1) xs
one-more xs was old now k lt some is = elim (slice_get_cases xs k).1 [
  | inl there ↦ (let (x, within, at, same) = there in
      let grown : now ≡ old ++ x ∷ [] = subst (λ (o : Option Row). IfSome o (λ (r : Row). now ≡ old ++ r ∷ [])) at some in
      grown ∙ ap (λ (ys : List Row). ys ++ x ∷ []) is ∙ append_assoc was (take k xs) (x ∷ []) ∙ ap (λ (ys : List Row). was ++ ys) (ap (λ (z : Row). take k xs ++ z ∷ []) (sym same) ∙ sym (take_more xs k x within)))
  | inr past ↦ (let le = past.0 in absurd (omega (arith, lt, le)))
]

-- the last one of a list is one
same-last : (xs ys : List Item) (x y : Item) → xs ++ x ∷ [] ≡ ys ++ y ∷ [] → x ≡ y
same-last [] [] x y e = cc
same-last [] (z ∷ ys) x y e = (let rest : [] ≡ ys ++ y ∷ [] = cc in absurd (none-left ys y (sym rest)))
same-last (z ∷ xs) [] x y e = (let rest : xs ++ x ∷ [] ≡ [] = cc in absurd (none-left xs x rest))
same-last (z ∷ xs) (w ∷ ys) x y e = same-last xs ys x y (cc)

pub one-job : (o : Option JobValue) {job other : JobValue} → o ≡ Some job → o ≡ Some other → job ≡ other
one-job o {job} {other} e f = (let both : Some job ≡ Some other = sym e ∙ f in cc)

-- Blocks.

-- the cell is a block
pub is-block : ReadableLaw → (h : List Dimension) (at : ℕ) (cell : CellValue) (a : ActorValue) → IsHere h (held at cell ∷ []) a → CanCollectBlock at a → has_block cell ≡ true
is-block readable h at cell a k due =
    let i = k.inv.holds in
    let g = k.inv.ghost_of in
    let s = a.setting in
    let v = view s k.world in
    let has : HasJob (k.world.actors k.number) due.job (Collects due.collecting) = record { is_job = ap (λ (z : ActorValue). z.job) k.agrees.actor_is ∙ due.has.is_job; stage_is = due.has.stage_is } in
    let so = so-far s k.world k.number g i due.job due.collecting has in
    let its = gate-of s k.world k.number g i due.job due.collecting has in
    let gate = due.collecting.frozen.gate in
    let noted = subst (λ (xs : List Item). IsCollecting (cells_at v.blocks v.trees gate) (g.shape gate) xs due.collecting.read (numbers so.at_blocks)) due.noted so.collecting in
    let it = readable (table_of s v.row) (cells_at v.blocks v.trees gate) (g.shape gate) due.items due.item due.collecting.read (numbers so.at_blocks) its.tree noted in
    let made = (i.stocking.tree gate due.item.cell its.whole it.inside it.block).1 in
    ap has_block (sym (ap k.world.cells due.here ∙ k.agrees.cells.0)) ∙ made

pub has-noted : (at : ℕ) (a : ActorValue) (job : JobValue) → CanCollectBlock at a → a.job ≡ Some job → HasNoted job
has-noted at a job due is = record {
  collecting = due.collecting;
  stage_is = ap (λ (j : JobValue). j.stage) (one-job a.job is due.has.is_job) ∙ due.has.stage_is;
  some = λ e. none-left due.items due.item (sym due.noted ∙ e);
}

pub block-makes : ReadableLaw → ReadLaw → (h : List Dimension) (at : ℕ) (cell : CellValue) (block : Block) (a b : ActorValue) (job now : JobValue) → CanCollectBlock at a → cell ≡ BlockCell block → a.job ≡ Some job → ReadsBlock block job now → b ≡ record a { job = Some now }
    → Makes h Collect (change at cell cell ∷ []) a b
block-makes readable reads h at cell block a b job now due is is_job did actor_is =
    let same : due.collecting ≡ did.collecting = same-collecting due.collecting did.collecting (sym due.has.stage_is ∙ ap (λ (j : JobValue). j.stage) (one-job a.job due.has.is_job is_job) ∙ did.was) in
    let r = did.reads in
    let last : due.item ≡ r.item = same-last due.items r.items due.item r.item (sym due.noted ∙ ap (λ (k : CollectingValue). k.items) same ∙ r.was) in
    let does : CollectsBlock (change at cell cell) a b = record {
      job = job;
      collecting = did.collecting;
      has = record { is_job = is_job; stage_is = did.was };
      items = r.items;
      item = r.item;
      noted = r.was;
      here = ap (λ (x : Item). x.cell) (sym last) ∙ due.here;
      block = block;
      reads = record { was = is; same = refl };
      actor_is = actor_is ∙ (λ k. record a { job = Some (did.is k) }) ∙ (λ k. record a { job = Some (record job { stage = Collects (record did.collecting { items = r.is k; read = r.read_is k; rows = r.rows_are k }) }) });
    } in
    record { does = inl does; keeps = collect-keeps readable reads h (change at cell cell) a b (inl does) }

-- Rows of the queue.

pub has-more : (h : List Dimension) (at : ℕ) (cell : CellValue) (a : ActorValue) (gate : Gate) (job : JobValue) → IsHere h (held at cell ∷ []) a → CanCollectRow at cell a → cell ≡ GateCell gate → a.job ≡ Some job → HasMore gate job
has-more h at cell a gate job k due is is_job =
    let i = k.inv.holds in
    let v = view a.setting k.world in
    let upto = i.queueing.upto at due.upto (ap phase_of k.agrees.cells.0 ∙ due.frozen) in
    let queue : length (v.queues at).rows ≡ length gate.queue.rows = ap (λ (c : CellValue). length (queue_in c).rows) (k.agrees.cells.0 ∙ is) in
    let more = due.more in
    record {
      collecting = due.collecting;
      stage_is = ap (λ (j : JobValue). j.stage) (one-job a.job is_job due.has.is_job) ∙ due.has.stage_is;
      more = omega (arith, upto, queue, more);
    }

pub row-makes : ReadableLaw → ReadLaw → (h : List Dimension) (at : ℕ) (cell : CellValue) (gate : Gate) (a b : ActorValue) (job now : JobValue) → CanCollectRow at cell a → cell ≡ GateCell gate → a.job ≡ Some job → CollectsRow gate job now → b ≡ record a { job = Some now }
    → Makes h Collect (change at cell cell ∷ []) a b
row-makes readable reads h at cell gate a b job now due is is_job did actor_is =
    let same : due.collecting ≡ did.collecting = same-collecting due.collecting did.collecting (sym due.has.stage_is ∙ ap (λ (j : JobValue). j.stage) (one-job a.job due.has.is_job is_job) ∙ did.was) in
    let phases : gate.phase ≡ phase.Frozen due.upto = (let both : Some gate.phase ≡ Some (phase.Frozen due.upto) = ap phase_of (sym is) ∙ due.frozen in cc) in
    let does : CollectsQueued (change at cell cell) a b = record {
      job = job;
      collecting = did.collecting;
      has = record { is_job = is_job; stage_is = did.was };
      all_read = ap (λ (k : CollectingValue). k.items) (sym same) ∙ due.all_read;
      here = ap (λ (k : CollectingValue). k.frozen.gate) (sym same) ∙ due.here;
      gate = gate;
      same = record { was = is; is = is };
      upto = due.upto;
      frozen = phases;
      more = subst (λ (k : CollectingValue). k.queued < due.upto) same due.more;
      row = did.takes.row;
      row_at = did.takes.row_at;
      actor_is = actor_is ∙ (λ k. record a { job = Some (did.is k) }) ∙ (λ k. record a { job = Some (record job { stage = Collects (did.takes.is k) }) });
    } in
    record { does = inr (inl does); keeps = collect-keeps readable reads h (change at cell cell) a b (inr (inl does)) }

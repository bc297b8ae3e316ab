-- The block that was noted last is read.
use Rattle.std.proofs.{Common.{◌≡◌, ◌≢◌, ℕ, eqb, List, [], ◌∷◌, ◌++◌, take, Option, Some, None, refl, sym, ap, ◌∙◌, subst, arith, append-nil, cond, ◌≤◌, ◌+◌, true, inl, inr, Bool}, lemmas.Bool.{eqb-true, eqb-false}, lemmas.List.{length-append, map-append}}
use Rattle.cell_stock.specs.declared.purse.Spare.{Spare}
use Rattle.dim_hierarchy.specs.declared.row.Row.{Row}
use Rattle.dc_node.specs.{Block.rows_in, declared.block.Block.Block, declared.todo.Item.Item}
use Rattle.core_tree.specs.link_descent.specs.Visit.{noted_right}
use Rattle.core_tree.specs.shard_store.specs.declared.gate.Phase.{Phase}
use Rattle.core_tree.specs.tree_shape.specs.{Collecting.{AfterRead, IsCollecting, IsReadable, entry_items}, Laws.{ReadLaw, ReadableLaw}, Queries.NoneWaits, Shape.{Shape, Table, TreeCells, nodes, numbers}, Steps.{IsIdle, IsSpare}}
use Rattle.list_words.specs.Counts.{Among, Each, times}
use Rattle.list_words.proofs.{Each.{each-both, each-append, each-here}, Times.{times-append, same_is}, Truth.on_bool}
use Rattle.core_tree.specs.volap_cell.specs.{AdminKinds.CollectsBlock, Cells.block_in, Errands.{AtBlock, IsCarried, RowWay, block_at}, Falls.stage_left, Ghost.Ghost, Growing.table_of, Invariant.InvWith, Kinds.Does, Setting.Setting, Steps.IsKept, Stocking.{NoneExpects, all_spares, cells_at, items_in}, Values.{ActorValue, CollectingValue, Collects}, View.{View, view, row_or}, Working.{HasBegun, IsCollected}, World.{Agrees, Change, World, after}, declared.kind.Kind.TheVariants.Collect}
use Rattle.core_tree.specs.volap_cell.proofs.Views.Admin.{view-collect_block}
use Rattle.core_admin.proofs.{Collecting.Freezings.wayless, Collecting.FrozenGates.{IsGateOf, spares-each, stands-placed}, Collecting.SoFar.{gate-of, goes-on, its, none-spent, so-far}, Collecting.Stages.{job-fresh, job-waits, read-few, waits-read}, Jobs.Stages.{IsNewStage, Stages, stage-goes_on, stage-history, stage-holds}}

pub none-left : (items : List Item) (item : Item) → items ++ item ∷ [] ≡ [] → ⊥
none-left [] item e = cc
none-left (x ∷ items) item e = cc

some-phase : (p : Option Phase) → (x : Phase) → p ≡ Some x → p ≢ None
some-phase p x is none = (let never : Some x ≡ None = sym is ∙ none in cc)

module _ (readable-law : ReadableLaw) (reads : ReadLaw) (s : Setting) (w : World) (n : ℕ) (g : Ghost) (i : InvWith s (view s w) g) (c : Change) (b : ActorValue) (ag : Agrees w (c ∷ []) n (w.actors n)) (d : CollectsBlock c (w.actors n) b) where
  abbrev v : View
  v = view s w

  abbrev k : IsCollected v.history v.blocks v.trees v.queues v.phases v.active g.shape d.collecting
  k = so-far s w n g i d.job d.collecting d.has

  at : IsGateOf s v g d.job.shard d.job.worker d.collecting.frozen.gate
  at = gate-of s w n g i d.job d.collecting d.has

  abbrev cells : TreeCells
  cells = cells_at v.blocks v.trees d.collecting.frozen.gate

  abbrev shape : Shape
  shape = g.shape d.collecting.frozen.gate

  abbrev table : Table
  table = table_of s v.row

  noted-is : IsCollecting cells shape (d.items ++ d.item ∷ []) d.collecting.read (numbers k.at_blocks)
  noted-is = subst (λ (xs : List Item). IsCollecting cells shape xs d.collecting.read (numbers k.at_blocks)) d.noted k.collecting

  readable : IsReadable cells shape d.item
  readable = readable-law table cells shape d.items d.item d.collecting.read (numbers k.at_blocks) at.tree noted-is

  -- nobody carries a row at the block, since nobody else must keep it, and this actor has no row
  idle : IsIdle shape d.item.cell
  idle r placed carried there =
      let (a, y, way, is, row, place) = i.turning.carried d.collecting.frozen.gate r (some-phase (v.phases d.collecting.frozen.gate) _ (its s w n g i d.job d.collecting d.has).phase_is) placed carried in
      let here : y ≡ c.number = sym (at-row a y way is place) ∙ ap shape.at row ∙ there ∙ d.here in
      on_bool (eqb a n)
      (λ q. wayless (w.actors n).errand (λ t of. i.numbering.parts n t of (i.numbering.working n d.job d.has.is_job)) way (sym (ap v.ways (eqb-true _ _ q)) ∙ is))
      (λ q. (ag.free a (eqb-false _ _ q)).0 (subst (λ (o : Option RowWay). IsCarried o c.number) (sym is) (ap block_at place ∙ ap Some here)))
    where
      at-row : (a y : ℕ) (way : RowWay) → v.ways a ≡ Some way → way.place ≡ AtBlock d.collecting.frozen.gate y → shape.at way.row.no ≡ y
      at-row a y way is place = (i.turning.carrying a d.collecting.frozen.gate y way is place).2

  law : AfterRead cells shape d.items d.item d.collecting.read (numbers k.at_blocks) noted-is.noted
  law = reads table cells shape d.items d.item d.collecting.read (numbers k.at_blocks) at.tree (record { collecting = noted-is; idle = idle })

  block-is : v.blocks d.item.cell ≡ d.block
  block-is = ap v.blocks d.here ∙ ap block_in (ag.cells.0 ∙ d.reads.was)

  abbrev now : CollectingValue
  now = record d.collecting {
    items = d.items ++ entry_items d.block.body ++ noted_right d.block d.item.stamp;
    read = d.collecting.read ++ d.item.cell ∷ [];
    rows = d.collecting.rows ++ rows_in d.block.body;
  }

  abbrev all_at : List Row
  all_at = k.at_blocks ++ rows_in d.block.body

  -- no row of the queue is collected yet
  none-queued : d.collecting.queued ≡ 0
  none-queued = on_bool (eqb d.collecting.queued 0) (λ q. eqb-true _ _ q) (λ q. let ne = eqb-false _ _ q in absurd (none-left d.items d.item (sym d.noted ∙ k.blocks_first (omega (arith, ne)))))

  first-none : (rows : List Row) → take d.collecting.queued rows ≡ []
  first-none rows = ap (λ (m : ℕ). take m rows) none-queued

  now-is : IsCollecting cells shape now.items now.read (numbers all_at)
  now-is = subst (IsCollecting cells shape now.items now.read) (sym (map-append (λ (r : Row). r.no) k.at_blocks (rows_in d.block.body)))
      (subst (λ (x : Block). IsCollecting cells shape (d.items ++ entry_items x.body ++ noted_right x d.item.stamp) now.read (numbers k.at_blocks ++ numbers (rows_in x.body))) block-is law.collecting)

  -- the rows of the block began

  row-begun : (r : Row) → v.row r.no ≡ r → 1 ≤ times r.no (numbers all_at) → HasBegun v.history r
  row-begun r named some =
      let count = now-is.rows r.no in
      let there : shape.placed r.no ≡ true = on_bool (shape.placed r.no) (λ q. q)
      (λ q. let none : cond (shape.placed r.no) (times (shape.at r.no) now.read) 0 ≡ 0 = ap (λ (x : Bool). cond x (times (shape.at r.no) now.read) 0) q in absurd (omega (arith, count, some, none))) in
      let (ins, is) = i.placing.begun r.no (stands-placed s v g i d.job.shard d.job.worker d.collecting.frozen.gate at r.no there) in
      (ins, is, sym (ap row_or is) ∙ named)

  rows-begun : Each (HasBegun v.history) (rows_in d.block.body)
  rows-begun = each-both (λ (r : Row). v.row r.no ≡ r) (λ (r : Row). 1 ≤ times r.no (numbers all_at)) (HasBegun v.history) (rows_in d.block.body) row-begun
      (subst (λ (x : Block). Each (λ (r : Row). v.row r.no ≡ r) (rows_in x.body)) block-is (at.tree.blocks d.item.cell readable.inside readable.block).rows)
      (each-here (λ (r : Row). 1 ≤ times r.no (numbers all_at)) (rows_in d.block.body) (λ r m.
      let some = row-among (rows_in d.block.body) r m in
      let all : times r.no (numbers all_at) ≡ times r.no (numbers k.at_blocks) + times r.no (numbers (rows_in d.block.body)) = ap (times r.no) (map-append (λ (x : Row). x.no) k.at_blocks (rows_in d.block.body)) ∙ times-append r.no (numbers k.at_blocks) (numbers (rows_in d.block.body)) in
      omega (arith, some, all)))
    where
      row-among : (rows : List Row) (r : Row) → Among r rows → 1 ≤ times r.no (numbers rows)
      row-among [] r m = absurd m
      row-among (x ∷ rows) r m = elim m [
        | inl is ↦ (let one = same_is r.no x.no (ap (λ (y : Row). y.no) is) in omega (arith, one))
        | inr more ↦ (let some = row-among rows r more in omega (arith, some))
      ]

  collected : IsCollected v.history v.blocks v.trees v.queues v.phases v.active g.shape now
  collected = record {
    drained = k.drained;
    at_blocks = all_at;
    named = each-append (HasBegun v.history) k.at_blocks (rows_in d.block.body) k.named rows-begun;
    rows =
        let queue = (v.queues d.collecting.frozen.gate).rows in
        let rows : d.collecting.rows ≡ k.at_blocks = k.rows ∙ ap (λ (xs : List Row). k.at_blocks ++ xs) (first-none queue) ∙ append-nil k.at_blocks in
        ap (λ (xs : List Row). xs ++ rows_in d.block.body) rows ∙ sym (ap (λ (xs : List Row). all_at ++ xs) (first-none queue) ∙ append-nil all_at);
    collecting = now-is;
    upto = k.upto;
    blocks_first = λ some. let none = none-queued in absurd (omega (arith, some, none));
  }

  to : IsNewStage s v g n d.job (Collects now)
  to = record {
    at = goes-on s w n g i d.job d.collecting d.has now refl collected;
    spent = none-spent s w n g i d.job d.collecting d.has now;
    waits = λ a. each-both (IsSpare shape (nodes cells)) (λ (x : Spare). NoneWaits x.stamp (d.items ++ d.item ∷ [])) (λ (x : Spare). NoneWaits x.stamp now.items) (all_spares v.purses v.jobs a)
        (λ x spare old. read-on x.stamp spare.unexpected old)
        (spares-each shape (nodes cells) (all_spares v.purses v.jobs a) (i.stamping.spare a d.collecting.frozen.gate at.whole))
        (job-waits s v g i n d.job (d.items ++ d.item ∷ []) d.has.is_job (ap items_in d.has.stage_is ∙ d.noted) a);
    fresh = λ stamp le. read-on stamp (i.stamping.fresh d.collecting.frozen.gate stamp at.whole le) (job-fresh s v g i n d.job (d.items ++ d.item ∷ []) d.has.is_job (ap items_in d.has.stage_is ∙ d.noted) stamp le);
    less = (
        let was : stage_left s v d.job.stage ≡ stage_left s v (Collects d.collecting) = ap (stage_left s v) d.has.stage_is in
        let few = read-few s v g i d.collecting.frozen.gate cells now.items now.read (numbers all_at) at.whole now-is in
        let long = length-append d.collecting.read (d.item.cell ∷ []) in
        omega (arith, was, few, long));
  }
    where
      read-on : (stamp : ℕ) → NoneExpects shape cells stamp → NoneWaits stamp (d.items ++ d.item ∷ []) → NoneWaits stamp now.items
      read-on stamp none old = subst (λ (x : Block). NoneWaits stamp (d.items ++ entry_items x.body ++ noted_right x d.item.stamp)) block-is (waits-read table cells shape d.items d.item stamp at.tree readable none old)

  pub block-kept : (does : Does s.hierarchy Collect (c ∷ []) (w.actors n) b) → IsKept s Collect n w (after w (c ∷ []) n b) g
  block-kept does =
      let stages : Stages s w n (c ∷ []) d.job (Collects now) b = record { is_job = d.has.is_job; actor_is = d.actor_is; same = view-collect_block s w n c (w.actors n) b ag d } in
      record {
        step = record { changes = c ∷ []; actor = b; agrees = ag; does = does; sight = tt; now_is = refl };
        ghost_now = g;
        holds = stage-holds s w n g i (c ∷ []) d.job (Collects now) b stages to;
        newer = [];
        grows = stage-history s w n g i (c ∷ []) d.job (Collects now) b stages to;
        goes_on = stage-goes_on s w n g i (c ∷ []) d.job (Collects now) b stages to;
      }

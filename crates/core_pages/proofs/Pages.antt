-- The page of a tree.
use Rattle.std.proofs.{Common.{ℕ, zero, suc, ◌≡◌, ◌+◌, ◌-◌, ◌<◌, ◌≤◌, true, false, cond, eqb, List, [], ◌∷◌, length, map, refl, sym, ap, ◌∙◌, subst, arith, append-nil}, lemmas.Bool.ne_eqb, lemmas.List.length-map}
use Rattle.std.specs.Prelude.{IsPermutation}
use Rattle.measure_agg.specs.Aggregate.{Aggregate, agg}
use Rattle.describing_set.specs.DescSet.{IsSetOf}
use Rattle.dc_node.specs.{Block.{rows_in, entries_in, is_leaf, size}, Summary.coords, declared.block.Block.Block, declared.entry.Entry.Entry}
use Rattle.core_image.specs.shard_store.specs.{Gate.root_entry, declared.gate.Gate.Gate}
use Rattle.row_ledger.specs.{Pages.{Groups, none, IsLeafGroup, IsDirectoryGroup, AreGroups, IsPageOf}, declared.page.NodeLine.NodeLine, declared.page.TreePage.TreePage}
use Rattle.list_words.specs.Counts.{Each, times}
use Rattle.list_words.proofs.{Each.each-made, Totals.{length-flat, total-same, total-few, total-some}}
use Rattle.core_image.specs.tree_shape.specs.{Laws.{OrderLaw, GateLaw}, PageLines.{CellBlocks, group, group_entries, group_line, lines}, Shape.{Table, Shape, numbers}}
use Rattle.core_image.specs.tree_shape.proofs.Whole.Sums.{rows-named}
use Rattle.core_pages.specs.Still.{IsStill, ShowsTree, cells_with, page_without_lines}
use Rattle.core_pages.proofs.{Bodies.{leaf-size, leaf-limit, directory-size, directory-limit}, Counts.{IsOn, IsEntry, block-ok, on-level, group-some, group-is, entries-ok, root-ok, root-times, rows-ok, named-ok}, Listing.{leaf_rows, rows_at, all_groups, grouped, listing-one, rows-one, rows-beneath, tops-one, tops-all}, Numbers.perm-rows}

-- what is known of a block of a leaf group, and of one of a directory group

record IsLeafBlock (b : Block) : Type 0 where
  items : size b.body ≡ length (rows_in b.body)
  few : size b.body ≤ 32

record IsDirectoryBlock (b : Block) : Type 0 where
  items : size b.body ≡ length (entries_in b.body)
  some : 1 ≤ size b.body
  few : size b.body ≤ 16

module _ (table : Table) (home : ℕ) (gate : Gate) (blocks : CellBlocks) (g : Shape) (still : IsStill table home gate blocks g) (order : OrderLaw) where
  abbrev Entry_ok : ℕ → Entry → Type 0
  Entry_ok l e = IsEntry table home gate blocks g still l e

  -- the blocks of a group

  leaf-blocks : (e : Entry) → 0 < gate.height → Entry_ok 0 e → Each IsLeafBlock (group blocks e)
  leaf-blocks e lt ok = subst (Each IsLeafBlock) (sym (group-is table home gate blocks g still 0 e lt ok))
      (each-made (IsOn table home gate blocks g still 0) IsLeafBlock (blocks.block) (g.group e.child)
      (λ y on.
      let b = block-ok table home gate blocks g still 0 y lt on in
      let kind : is_leaf (blocks.block y).body ≡ true = b.kind ∙ ap (λ l. eqb l 0) on.1 in
      let few = b.few in
      let room = leaf-limit (blocks.block y).body kind in
      record { items = leaf-size (blocks.block y).body kind; few = omega arith })
      (on-level table home gate blocks g still 0 e ok))

  directory-blocks : (l : ℕ) (e : Entry) → suc l < gate.height → Entry_ok (suc l) e → Each IsDirectoryBlock (group blocks e)
  directory-blocks l e lt ok = subst (Each IsDirectoryBlock) (sym (group-is table home gate blocks g still (suc l) e lt ok))
      (each-made (IsOn table home gate blocks g still (suc l)) IsDirectoryBlock (blocks.block) (g.group e.child)
      (λ y on.
      let b = block-ok table home gate blocks g still (suc l) y lt on in
      let kind : is_leaf (blocks.block y).body ≡ false = b.kind ∙ ap (λ k. eqb k 0) on.1 ∙ ne_eqb (suc l) 0 (λ q. absurd (omega arith)) in
      let few = b.few in
      let room = directory-limit (blocks.block y).body kind in
      let high = on.1 in
      record { items = directory-size (blocks.block y).body kind; some = b.some (omega arith); few = omega arith })
      (on-level table home gate blocks g still (suc l) e ok))

  blocks-some : (l : ℕ) (e : Entry) → l < gate.height → Entry_ok l e → 1 ≤ length (group blocks e)
  blocks-some l e lt ok =
      let a = ap length (group-is table home gate blocks g still l e lt ok) in
      let b = length-map (g.group e.child) (blocks.block) in
      let s = group-some table home gate blocks g still l e ok in
      omega arith

  -- aggregates and sets

  pub agg-ok : (l : ℕ) (e : Entry) → l < gate.height → Entry_ok l e → e.agg ≡ agg (rows_at blocks l e)
  agg-ok l e lt ok =
      ok.summary.agg
      ∙ (order table (g.below e.child) (numbers (rows_at blocks l e)) e.set (λ r. sym (rows-ok table home gate blocks g still l e lt ok r))).0
      ∙ ap agg (rows-named table (rows_at blocks l e) (named-ok table home gate blocks g still l e lt ok))

  pub set-ok : (l : ℕ) (e : Entry) → l < gate.height → Entry_ok l e → IsSetOf table.hierarchy (coords (rows_at blocks l e)) e.set
  set-ok l e lt ok = subst (λ rs. IsSetOf table.hierarchy (coords rs) e.set) (rows-named table (rows_at blocks l e) (named-ok table home gate blocks g still l e lt ok))
      ((order table (g.below e.child) (numbers (rows_at blocks l e)) e.set (λ r. sym (rows-ok table home gate blocks g still l e lt ok r))).1 ok.summary.set_of)

  -- groups

  leaf-ok : (d : ℕ) (e : Entry) → d + 1 ≡ gate.height → Entry_ok 0 e → IsLeafGroup table.hierarchy gate.height d (leaf_rows blocks e) (group_line true d (group blocks e) e)
  leaf-ok d e h ok =
      let lt : 0 < gate.height = omega arith in
      let bs = leaf-blocks e lt ok in
      record {
        depth = refl;
        lowest = h;
        leaf = refl;
        blocks = blocks-some 0 e lt ok;
        items = total-same IsLeafBlock (λ (b : Block). size b.body) (λ (b : Block). length (rows_in b.body)) (group blocks e) (λ b w. w.items) bs ∙ sym (length-flat (λ (b : Block). rows_in b.body) (group blocks e));
        room = total-few IsLeafBlock (λ (b : Block). size b.body) 32 (group blocks e) (λ b w. w.few) bs;
        agg = agg-ok 0 e lt ok;
        set = set-ok 0 e lt ok;
      }

  directory-ok : (l d : ℕ) (e : Entry) → d + suc l + 1 ≡ gate.height → Entry_ok (suc l) e
      → IsDirectoryGroup table.hierarchy gate.height d (all_groups (λ x m. grouped blocks l (d + 1) x m) (group_entries blocks e)) (group_line false d (group blocks e) e)
  directory-ok l d e h ok =
      let lt : suc l < gate.height = omega arith in
      let bs = directory-blocks l e lt ok in
      let rows = rows-beneath blocks l (d + 1) (group_entries blocks e) in
      record {
        depth = refl;
        higher = omega arith;
        leaf = refl;
        blocks = blocks-some (suc l) e lt ok;
        items = total-same IsDirectoryBlock (λ (b : Block). size b.body) (λ (b : Block). length (entries_in b.body)) (group blocks e) (λ b w. w.items) bs ∙ sym (length-flat (λ (b : Block). entries_in b.body) (group blocks e))
            ∙ sym (tops-all blocks l (d + 1) (group_entries blocks e));
        some = total-some IsDirectoryBlock (λ (b : Block). size b.body) (group blocks e) (λ b w. w.some) bs (blocks-some (suc l) e lt ok);
        room = total-few IsDirectoryBlock (λ (b : Block). size b.body) 16 (group blocks e) (λ b w. w.few) bs;
        agg = agg-ok (suc l) e lt ok ∙ ap agg (sym rows);
        set = subst (λ rs. IsSetOf table.hierarchy (coords rs) e.set) (sym rows) (set-ok (suc l) e lt ok);
      }

  all-ok : (l d : ℕ) → ((e : Entry) → Entry_ok l e → (more : Groups) → AreGroups table.hierarchy gate.height d more → AreGroups table.hierarchy gate.height d (grouped blocks l d e more))
      → (es : List Entry) → Each (Entry_ok l) es → AreGroups table.hierarchy gate.height d (all_groups (λ x m. grouped blocks l d x m) es)
  all-ok l d one [] w = tt
  all-ok l d one (e ∷ es) w = one e w.0 (all_groups (λ x m. grouped blocks l d x m) es) (all-ok l d one es w.1)

  groups-ok : (l d : ℕ) → d + l + 1 ≡ gate.height → (e : Entry) → Entry_ok l e → (more : Groups) → AreGroups table.hierarchy gate.height d more → AreGroups table.hierarchy gate.height d (grouped blocks l d e more)
  groups-ok zero d h e ok more rest = (leaf-ok d e (omega arith) ok, rest)
  groups-ok (suc l) d h e ok more rest = (
    directory-ok l d e h ok,
    all-ok l (d + 1) (groups-ok l (d + 1) (omega arith)) (group_entries blocks e) (entries-ok table home gate blocks g still l (suc l) e (omega arith) (omega arith) ok),
    rest,
  )

  module _ (gate_law : GateLaw) (ns : List ℕ) (here : (r : ℕ) → times r ns ≡ cond (g.placed r) 1 0) where
    page-ok : (rows queued : ℕ) (nodes : List NodeLine) → rows ≡ gate.agg.count → queued ≡ length gate.queue.rows → nodes ≡ lines blocks (gate.height - 1) 0 (root_entry gate)
        → IsPageOf table.hierarchy (map table.row ns) gate.queue.rows (record { shard = gate.shard; height = gate.height; rows = rows; queued = queued; nodes = nodes })
    page-ok rows queued nodes r q n =
        let some = still.tree.some in
        let l = gate.height - 1 in
        let lt : gate.height - 1 < gate.height = omega arith in
        let ok = root-ok table home gate blocks g still in
        let root = root_entry gate in
        let count = ap (λ (a : Aggregate). a.count) (gate_law table (cells_with home gate blocks) g still.tree ns here).agg in
        record {
          groups = grouped blocks l 0 root none;
          listed = n ∙ sym (append-nil (lines blocks l 0 root)) ∙ sym (listing-one blocks l 0 root none);
          root = tops-one blocks l 0 root none;
          shape = groups-ok l 0 (omega arith) root ok none tt;
          beneath = subst (λ rs. IsPermutation rs (map table.row ns)) (sym (rows-one blocks l 0 root none ∙ append-nil (rows_at blocks l root)))
              (perm-rows table (rows_at blocks l root) ns (named-ok table home gate blocks g still l root lt ok)
              (λ x. rows-ok table home gate blocks g still l root lt ok x ∙ root-times table home gate blocks g still x ∙ sym (here x)));
          rows = r ∙ count;
          queued = q;
        }

-- a page of a gate's own numbers and of the lines of its blocks shows its tree
pub shows-tree : (gate : Gate) (blocks : CellBlocks) → OrderLaw → GateLaw → (page : TreePage) (nodes : List NodeLine) → page ≡ page_without_lines gate → nodes ≡ lines blocks (gate.height - 1) 0 (root_entry gate)
    → ShowsTree gate blocks (record { shard = page.shard; height = page.height; rows = page.rows; queued = page.queued; nodes = nodes })
shows-tree gate blocks order gate_law page nodes is n =
    subst (λ (p : TreePage). ShowsTree gate blocks (record { shard = p.shard; height = p.height; rows = p.rows; queued = p.queued; nodes = nodes })) (sym is)
    (record {
      shard = refl;
      height = refl;
      rows = refl;
      queued = refl;
      nodes = n;
      page = λ table home g still ns here. page-ok table home gate blocks g still order gate_law ns here gate.agg.count (length gate.queue.rows) nodes refl refl n;
    })

-- Leaves are trees side by side, and so is each level
use Rattle.std.proofs.{Common.{◌≡◌, ℕ, ◌+◌, ◌^◌, ◌<◌, ◌≤◌, true, false, List, [], ◌∷◌, ◌++◌, length, map, take, drop, refl, sym, ap, ◌∙◌, subst, arith, length-append}, lemmas.Grind.flat_map-append, lemmas.List.{append-nil, drop_at, map-append, take-append-drop}, lemmas.List.Elements.{All-append, All-head, All-tail}}
use Rattle.std.specs.{List.AllZip, Prelude.{None, sum_by, All}}
use Rattle.dim_hierarchy.specs.{Dimension.Dimension, Rows.IsRowOf, declared.row.Row.Row}
use Rattle.dc_node.specs.{Block.{is_leaf, rows_in, size}, Summary.IsSummary, declared.block.Block.Block, declared.block.Body.Body, declared.block.Body.TheVariants.{Rows, Entries}, declared.entry.Entry.Entry}
use Rattle.tree_shape.specs.link_descent.specs.{Descend.IsEntryOf, declared.entered.Fresh.Fresh}
use Rattle.list_words.specs.Counts.{Each, times}
use Rattle.list_words.proofs.{Each.{each-all, each-left, each-right}, Times.times-append}
use Rattle.tree_shape.specs.{Forest.{AreInCells, AreRowsOf, DirectoriesLaw, IsForest, LeavesLaw, all_entries, all_rows, filled_cells}, Shape.numbers, Trees.limit}
use Rattle.shard_build.specs.Building.{AreLeavesOf, AreParentsOf, AreSmall, IsEntryTo, IsGrown, most, rows_under}
use Rattle.shard_build.proofs.{Led.{leaves-led, level-led}, Summed.{leaves-beneath, leaves-countable, parents-beneath, parents-countable, parents-rows}}

-- Leaves.

within : (body : Body) → size body ≤ most body → size body ≤ limit body
within (Rows rows) le = omega arith
within (Entries entries) le = omega arith

all-within : (fs : List Fresh) → AreSmall fs → Each (λ f. size f.block.body ≤ limit f.block.body) fs
all-within [] small = tt
all-within (f ∷ fs) small =
    (within f.block.body (All-head (λ (f : Fresh). size f.block.body ≤ most f.block.body) f fs small), all-within fs (All-tail (λ (f : Fresh). size f.block.body ≤ most f.block.body) f fs small))

pub leaves-grown : (h : List Dimension) (rows : List Row) (blocks : List Fresh) → LeavesLaw → All (IsRowOf h) rows → 0 < length blocks → AreLeavesOf rows blocks → IsGrown h rows blocks 0 0
leaves-grown h rows blocks law valid some w = record {
  within = some;
  countable = leaves-countable h blocks w.kind w.small (subst (All (IsRowOf h)) (sym w.rows_are) valid);
  beneath = leaves-beneath blocks w.kind ∙ ap length w.rows_are;
  small = w.small;
  alone = w.alone;
  rows_are = w.rows_are;
  led = leaves-led blocks w.kind;
  forest = λ table block is have stand apart.
      subst (λ (xs : List Row). IsForest table block 0 (filled_cells blocks) (filled_cells blocks) (numbers xs)) w.rows_are (law table block blocks (record {
        stand = stand;
        apart = apart;
        kind = each-all (λ f. is_leaf f.block.body ≡ true) blocks w.kind;
        few = all-within blocks w.small;
        rows = subst (AreRowsOf table) (sym w.rows_are) have;
      }));
}

-- Directories.

-- an entry to a block is one of the block in its cell
pub entry-in-cell : (h : List Dimension) (block : ℕ → Block) (f : Fresh) (e : Entry) → block f.cell ≡ f.block → IsEntryTo h f e → IsEntryOf h e.child (block e.child) e
entry-in-cell h block f e s w =
    let is : block e.child ≡ f.block = ap block w.child ∙ s in
    record {
      child = refl;
      stamp = w.stamp ∙ sym (ap (λ (b : Block). b.stamp) is);
      summary = subst (λ (b : Block). IsSummary h b.body e.agg e.set) (sym is) w.summary;
      valid = w.valid;
    }

entries-in-cells : (h : List Dimension) (block : ℕ → Block) (fs : List Fresh) (es : List Entry) → AreInCells block fs → AllZip (IsEntryTo h) fs es
    → Each (λ e. IsEntryOf h e.child (block e.child) e) es
entries-in-cells h block [] [] s z = tt
entries-in-cells h block [] (e ∷ es) s z = absurd z
entries-in-cells h block (f ∷ fs) [] s z = tt
entries-in-cells h block (f ∷ fs) (e ∷ es) s z = (entry-in-cell h block f e s.0 z.0, entries-in-cells h block fs es s.1 z.1)

entries-lead : (h : List Dimension) (fs : List Fresh) (es : List Entry) → AllZip (IsEntryTo h) fs es → map (λ e. e.child) es ≡ filled_cells fs
entries-lead h [] [] z = refl
entries-lead h [] (e ∷ es) z = absurd z
entries-lead h (f ∷ fs) [] z = absurd z
entries-lead h (f ∷ fs) (e ∷ es) z = let a = z.0.child in let ih = entries-lead h fs es z.1 in cc

-- the last of blocks in cells
pub in-cells-from : (block : ℕ → Block) (blocks : List Fresh) (from : ℕ) → AreInCells block blocks → AreInCells block (drop from blocks)
in-cells-from block blocks from s =
    each-right (λ f. block f.cell ≡ f.block) (take from blocks) (drop from blocks) (subst (AreInCells block) (sym (take-append-drop from blocks)) s)

pub level-grown : (h : List Dimension) (rows : List Row) (blocks parents : List Fresh) (from l : ℕ) → DirectoriesLaw → IsGrown h rows blocks from l
    → AreParentsOf h (drop from blocks) parents → 1 ≤ length parents → length rows < 2 ^ 63 → IsGrown h rows (blocks ++ parents) (length blocks) (l + 1)
level-grown h rows blocks parents from l law g w some few =
    let tops : drop (length blocks) (blocks ++ parents) ≡ parents = drop_at blocks parents (length blocks) refl in
    record {
      within = omega (arith, length-append blocks parents);
      countable = rw tops (parents-countable h (drop from blocks) parents w.kind w.entries (omega (arith, g.beneath)));
      beneath = ap (sum_by rows_under) tops ∙ parents-beneath h (drop from blocks) parents w.kind w.entries ∙ g.beneath;
      small = All-append (λ f. size f.block.body ≤ most f.block.body) blocks parents g.small w.small;
      alone = All-append (λ f. f.block.right ≡ None) blocks parents g.alone w.alone;
      rows_are = flat_map-append (λ (f : Fresh). rows_in f.block.body) blocks parents ∙ ap (λ (xs : List Row). all_rows blocks ++ xs) (parents-rows parents w.kind)
          ∙ append-nil (all_rows blocks) ∙ g.rows_are;
      led = level-led h blocks parents from g.led w.entries;
      forest = λ table block is have stand apart.
          let cells : filled_cells (blocks ++ parents) ≡ filled_cells blocks ++ filled_cells parents = map-append (λ (f : Fresh). f.cell) blocks parents in
          let apart2 : (y : ℕ) → times y (filled_cells blocks ++ filled_cells parents) ≤ 1 = subst (λ (xs : List ℕ). (y : ℕ) → times y xs ≤ 1) cells apart in
          let lower = each-left (λ f. block f.cell ≡ f.block) blocks parents stand in
          let upper = each-right (λ f. block f.cell ≡ f.block) blocks parents stand in
          let before = g.forest table block is have lower (λ y. let a = apart2 y in omega (arith, times-append y (filled_cells blocks) (filled_cells parents))) in
          let now = law table block l (filled_cells (drop from blocks)) (filled_cells blocks) (numbers rows) parents before (record {
            stand = upper;
            apart = apart2;
            kind = each-all (λ f. is_leaf f.block.body ≡ false) parents w.kind;
            some = each-all (λ f. 1 ≤ size f.block.body) parents w.some;
            few = all-within parents w.small;
            entries = subst (λ (x : List Dimension). Each (λ e. IsEntryOf x e.child (block e.child) e) (all_entries parents)) (sym is)
                (entries-in-cells h block (drop from blocks) (all_entries parents) (in-cells-from block blocks from lower) w.entries);
            each = λ y. ap (times y) (entries-lead h (drop from blocks) (all_entries parents) w.entries);
          }) in
          subst (λ (xs : List Fresh). IsForest table block (l + 1) (filled_cells xs) (filled_cells (blocks ++ parents)) (numbers rows)) (sym tops)
          (subst (λ (xs : List ℕ). IsForest table block (l + 1) (filled_cells parents) xs (numbers rows)) (sym cells) now);
    }

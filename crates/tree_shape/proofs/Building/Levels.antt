-- Directories over a forest are a forest
use Rattle.std.proofs.{Common.{◌≡◌, ℕ, ◌+◌, ◌≤◌, true, false, eqb, leb, List, [], ◌∷◌, ◌++◌, map, inl, inr, refl, sym, ap, ◌∙◌, arith}, lemmas.Bool.{eqb-true, eqb-false, ne_eqb, leb-true, leb-false}}
use Rattle.dc_node.specs.{Block.{entries_in, is_leaf, size}, declared.block.Block.Block, declared.entry.Entry.Entry}
use Rattle.link_descent.specs.{Descend.IsEntryOf, declared.entered.Fresh.Fresh}
use Rattle.list_words.specs.Counts.{Among, Each, same, times, total}
use Rattle.list_words.proofs.{Each.{each-here, each-both, each-map}, Times.{same_is, same_not, times-append}, Totals.total-map, Truth.on_bool}
use Rattle.tree_shape.specs.{Forest.{AreOver, DirectoriesLaw, IsForest, all_entries, filled_cells}, Shape.{Node, Shape, Table, node_of}, Trees.{BlockOk, EntryOk, limit}}
use Rattle.tree_shape.proofs.{Building.Forests.{at-cell, total-cells, each-items, directory-summary}, Building.Storeys.{IsUnder, beneath-new, below-new, inside-new, leads, level-new, level-old, low, sorts, storey, tree-storey}, Cutting.Relations.IsSumOf, Whole.Assembled.{block-kept, no-rows}, Whole.Sums.sum-below}

among-child : (es : List Entry) (e : Entry) → Among e es → 1 ≤ times e.child (map (λ x. x.child) es)
among-child [] e h = absurd h
among-child (x ∷ es) e h = elim h [
  | inl is ↦ (let o = same_is e.child x.child (ap (λ (y : Entry). y.child) is) in omega arith)
  | inr w ↦ (let ih = among-child es e w in omega arith)
]

module _ (table : Table) (block : ℕ → Block) (l : ℕ) (roots cells rows : List ℕ) (directories : List Fresh)
    (f : IsForest table block l roots cells rows) (d : AreOver table block roots cells directories) where
  abbrev g : Shape
  g = f.shape

  abbrev look : ℕ → Node
  look = λ c. node_of (block c)

  abbrev up : List ℕ
  up = filled_cells directories

  once-up : (y : ℕ) → times y up ≤ 1
  once-up y = let a = d.apart y in let b = times-append y cells up in omega arith

  fresh-up : (y : ℕ) → 1 ≤ times y up → g.inside y ≡ false
  fresh-up y n =
      let a = d.apart y in
      let b = times-append y cells up in
      let c = f.inside y in
      on_bool (g.inside y) (λ q. let z : times y cells ≡ 1 = c ∙ (rw q refl) in absurd (omega arith)) (λ q. q)

  -- each entry leads to a root
  entries-ok : Each (EntryOk g look table l) (all_entries directories)
  entries-ok = each-both (λ e. IsEntryOf table.hierarchy e.child (block e.child) e) (λ e. 1 ≤ times e.child roots) (EntryOk g look table l) (all_entries directories) (λ e w n. f.entries e n w) d.entries
      (each-here (λ e. 1 ≤ times e.child roots) (all_entries directories) (λ e h. let a = d.each e.child in let b = among-child (all_entries directories) e h in omega arith))

  entries-at : (b : ℕ) → 1 ≤ times b up → Each (EntryOk g look table l) (look b).entries
  entries-at b n = at-cell (λ x. Each (EntryOk g look table l) (entries_in x.body)) block directories b d.stand
      (each-items (EntryOk g look table l) (λ x. entries_in x.body) directories entries-ok) n

  led-once : (y : ℕ) → g.inside y ≡ true → g.level y ≡ l → total (leads look y) up ≡ 1
  led-once y i lv =
      let a = total-cells (λ (e : Entry). same y e.child) (λ x. entries_in x.body) block directories d.stand in
      let b = total-map (λ z. same y z) (λ (e : Entry). e.child) (all_entries directories) in
      let c = d.each y in
      let o = same_is (g.level y) l lv in
      let r : times y roots ≡ same (g.level y) l = f.at_top y ∙ (rw i refl) in
      omega arith

  under : IsUnder g look look table l up
  under = record {
    tree = f.tree;
    height = f.height;
    groups = f.groups;
    kept = λ y i. refl;
    fresh = fresh-up;
    once = once-up;
    entries = entries-at;
    each = led-once;
  }

  abbrev g2 : Shape
  g2 = storey g look l up

  directory-at : (b : ℕ) → 1 ≤ times b up → is_leaf (block b).body ≡ false
  directory-at b n = at-cell (λ x. is_leaf x.body ≡ false) block directories b d.stand d.kind n

  directory-block : (b : ℕ) → 1 ≤ times b up → BlockOk table g2 b (block b)
  directory-block b n =
      let lv = level-new g look look table l up under b n in
      record {
        kind = directory-at b n ∙ sym (ne_eqb (g2.level b) 0 (omega arith));
        some = λ h. at-cell (λ x. 1 ≤ size x.body) block directories b d.stand d.some n;
        few = at-cell (λ x. size x.body ≤ limit x.body) block directories b d.stand d.few n;
        rows = rw (no-rows (block b).body (directory-at b n)) tt;
        room = λ r p c a. let z : true ≡ false = sym c ∙ f.settled r in cc;
      }

  directory-entry : (e : Entry) → 1 ≤ times e.child up → IsEntryOf table.hierarchy e.child (block e.child) e → EntryOk g2 look table (l + 1) e
  directory-entry e n w =
      let s = directory-summary table.hierarchy (block e.child).body e.agg e.set (directory-at e.child n) w.summary in
      let sums = each-map (EntryOk g look table l) (λ x. IsSumOf table (g.below x.child) x) (look e.child).entries (λ x k. k.summary) (entries-at e.child n) in
      record {
        group = record {
          walks = ([], refl, sym w.stamp);
          low = omega arith;
          cells = λ y on. on_bool (eqb y e.child)
              (λ q. let is = eqb-true _ _ q in rw is (inside-new g look look table l up under e.child n, level-new g look look table l up under e.child n))
              (λ q. let o = same_not y e.child (eqb-false _ _ q) in absurd (omega arith));
        };
        members = λ y i lv. omega arith;
        rows = λ r. beneath-new g look look table l up under e r n;
        summary = rw (below-new g look look table l up under e.child n) (sum-below g table (entries_in (block e.child).body) e sums s.0 s.1);
      }

  pub directories-forest : IsForest table block (l + 1) (filled_cells directories) (cells ++ filled_cells directories) rows
  directories-forest = record {
    shape = g2;
    height = omega arith;
    tree = tree-storey g look look table l up under;
    blocks = λ b i. sorts g look look table l up under b i
        (λ n. directory-block b n)
        (λ o. block-kept table g g2 b (block b) (block b) (f.blocks b o) refl (level-old g look look table l up under b o)
        (λ q p c a. let z : true ≡ false = sym c ∙ f.settled q in cc));
    inside = λ y.
        let a = times-append y cells up in
        let b = d.apart y in
        let c = f.inside y in
        on_bool (leb 1 (times y up))
        (λ q. let n = leb-true _ _ q in let z = fresh-up y n in let k : times y cells ≡ 0 = c ∙ (rw z refl) in rw q (omega arith))
        (λ q. let n = leb-false _ _ q in rw q (omega arith));
    at_top = λ y.
        let o = once-up y in
        on_bool (leb 1 (times y up))
        (λ q. let n = leb-true _ _ q in let s = same_is (l + 1) (l + 1) refl in rw q (omega arith))
        (λ q. let n = leb-false _ _ q in on_bool (g.inside y)
        (λ i. let b = low g look look table l up under y i in let s = same_not (g.level y) (l + 1) (λ e. absurd (omega arith)) in rw (q, i) (omega arith))
        (λ i. rw (q, i) (omega arith)));
    heads = λ y. refl;
    groups = λ y. refl;
    placed = f.placed;
    settled = f.settled;
    numbered = f.numbered;
    entries = directory-entry;
  }

pub directories-law : DirectoriesLaw
directories-law table block l roots cells rows directories f d = directories-forest table block l roots cells rows directories f d

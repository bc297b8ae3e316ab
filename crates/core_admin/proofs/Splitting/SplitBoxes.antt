-- The box of a child of a split shard is true: it is the set of the rows of its tree and of those in the queue beside it, which are all
-- rows of the shard on its side.
use Rattle.std.proofs.{Common.{◌≡◌, ℕ, ◌+◌, ◌≤◌, List, ◌++◌, Bool, true, cond, Contains, All, Some, refl, sym, ap, ◌∙◌, subst, arith}, lemmas.List.map-append, lemmas.List.Elements.{All-contains, All-map}}
use Rattle.dim_hierarchy.specs.{Dimension.Dimension, Row.IsCoordOf, Rows.IsRowOf, declared.row.Coord.Coord, declared.row.Row.Row}
use Rattle.dc_node.specs.Summary.{coords}
use Rattle.describing_set.specs.{DescSet.IsSetOf, declared.set.DescSet.DescSet}
use Rattle.row_ledger.specs.Bounds.{may}
use Rattle.list_words.specs.Counts.{Each, same, times}
use Rattle.list_words.proofs.{Each.{each-both, all-each, each-append}, Times.{times-append, same_is}}
use Rattle.core_tree.specs.tree_shape.specs.{Laws.GateLaw, Shape.numbers}
use Rattle.core_tree.specs.volap_cell.specs.{AdminKinds.IsTrueBox, Ghost.Ghost, Invariant.InvWith, Setting.Setting, Values.JobValue, View.{View, view}, World.World}
use Rattle.core_admin.proofs.{Collecting.ShardRows.{is-allowed, row-of}, Splitting.SplitKnown.IsChildBox}

coords-valid : (h : List Dimension) (rows : List Row) → Each (IsRowOf h) rows → All (IsCoordOf h) (coords rows)
coords-valid h rows valid = All-map (IsCoordOf h) (λ (x : Row). x.at) rows (all-each (IsRowOf h) rows valid)

-- what is known of rows of the shard
pub record AreShardRows (s : Setting) (v : View) (g : Ghost) (rows : List Row) : Type 0 where
  pub named : Each (λ (x : Row). v.row x.no ≡ x) rows
  pub valid : Each (IsRowOf s.hierarchy) rows
  pub placed : Each (λ (x : Row). g.placed x.no ≡ true) rows

module _ (gates : GateLaw) (s : Setting) (w : World) (g : Ghost) (i : InvWith s (view s w) g) (n : ℕ) (job : JobValue) (is_job : (w.actors n).job ≡ Some job) (its : ℕ → Bool) (a b : List Row) (of_tree : AreShardRows s (view s w) g a) (of_queue : AreShardRows s (view s w) g b)
    (all : (q : ℕ) → times q (numbers a) + times q (numbers b) ≡ cond (its q) (cond (g.placed q) (same (g.home q) job.shard) 0) 0) (tree_set box : DescSet) (set_of : IsSetOf s.hierarchy (coords a) tree_set) (true_box : IsTrueBox s.hierarchy tree_set b box) where
  abbrev v : View
  v = view s w

  rows-named : Each (λ (x : Row). v.row x.no ≡ x) (a ++ b)
  rows-named = each-append (λ (x : Row). v.row x.no ≡ x) a b of_tree.named of_queue.named

  rows-placed : Each (λ (x : Row). g.placed x.no ≡ true) (a ++ b)
  rows-placed = each-append (λ (x : Row). g.placed x.no ≡ true) a b of_tree.placed of_queue.placed

  there : (q : ℕ) → g.placed q ≡ true → g.home q ≡ job.shard → its q ≡ true → 1 ≤ times q (numbers (a ++ b))
  there q placed home is =
      let parts : times q (numbers (a ++ b)) ≡ times q (numbers a) + times q (numbers b) = ap (times q) (map-append (λ (x : Row). x.no) a b) ∙ times-append q (numbers a) (numbers b) in
      let one : cond (its q) (cond (g.placed q) (same (g.home q) job.shard) 0) 0 ≡ same (g.home q) job.shard = rw (is, placed) refl in
      let mine = same_is (g.home q) job.shard home in
      let k = all q in omega (arith, parts, one, mine, k)

  pub child-box : IsChildBox s v g job.shard its box
  child-box = record {
    rows = a ++ b;
    valid = coords-valid s.hierarchy (a ++ b) (each-append (IsRowOf s.hierarchy) a b of_tree.valid of_queue.valid);
    usable = all-each (Contains (may g.placed v.history)) (a ++ b) (each-both (λ (x : Row). v.row x.no ≡ x) (λ (x : Row). g.placed x.no ≡ true) (Contains (may g.placed v.history)) (a ++ b) (λ x named placed. is-allowed gates s w g i job.shard job.worker (i.working.front n job is_job) x named placed) rows-named rows-placed);
    set_of = subst (λ (xs : List Coord). IsSetOf s.hierarchy xs box) (sym (map-append (λ (x : Row). x.at) a b))
        (true_box.2.joined (coords a) (coords b) (coords-valid s.hierarchy a of_tree.valid) (coords-valid s.hierarchy b of_queue.valid) set_of true_box.1);
    has = λ q placed home is.
        let row = row-of (a ++ b) q (there q placed home is) in
        let named = All-contains (λ (x : Row). v.row x.no ≡ x) (a ++ b) row.0 (all-each (λ (x : Row). v.row x.no ≡ x) (a ++ b) rows-named) row.1 in
        subst (Contains (a ++ b)) (sym named ∙ ap v.row row.2) row.1;
  }

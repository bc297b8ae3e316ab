-- Another table with the same rows in a tree, or in a tree and counted
use Rattle.std.proofs.{Common.{◌≡◌, ◌≢◌, ℕ, ◌≤◌, inl, inr, Bool, true, eqb, List, [], ◌∷◌, map, refl, sym, ap, ◌∙◌, subst, arith}, lemmas.Bool.eqb-true}
use Rattle.dim_hierarchy.specs.{declared.filter.Pick.Pick, declared.row.Row.Row}
use Rattle.measure_agg.specs.Aggregate.{agg}
use Rattle.dc_node.specs.{Block.rows_in, declared.entry.Entry.Entry, declared.todo.Item.Item}
use Rattle.list_words.specs.Counts.{Each, times}
use Rattle.list_words.proofs.{Times.same_is, Truth.on_bool}
use Rattle.tree_shape.specs.{Queries.{IsUnfinished, fits}, Shape.{Node, Shape, Table, TreeCells, nodes, numbers}, Tables.{AfterTable, AreAlike, IsThere, IsThereOrCounted}, Trees.{BlockOk, EntryOk, IsTree, lies}, Walks.{beneath, noted_of}}
use Rattle.tree_shape.proofs.Whole.Assembled.{no-rows, node-block}

rows-alike : (of : ℕ → Type 0) (table other : Table) → AreAlike of table other → (ns : List ℕ) → ((r : ℕ) → 1 ≤ times r ns → of r) → map other.row ns ≡ map table.row ns
rows-alike of table other a [] h = refl
rows-alike of table other a (n ∷ ns) h =
    let o = same_is n n refl in
    cc (a.row n (h n (omega arith)), rows-alike of table other a ns (λ r k. h r (omega arith)))

module _ (table other : Table) (g : Shape) (a : AreAlike (IsThere g) table other) where
  entries-alike : (look : ℕ → Node) (l : ℕ) (es : List Entry) → Each (EntryOk g look table l) es → Each (EntryOk g look other l) es
  entries-alike look l [] w = tt
  entries-alike look l (e ∷ es) w = (
    record {
      group = w.0.group;
      members = w.0.members;
      rows = w.0.rows;
      summary = (let is = rows-alike (IsThere g) table other a (g.below e.child) there in rw (a.hierarchy, is) w.0.summary);
    },
    entries-alike look l es w.1,
  )
    where
      there : (r : ℕ) → 1 ≤ times r (g.below e.child) → g.placed r ≡ true
      there r h = on_bool (g.placed r) (λ p. p) (λ p.
          let z : beneath g (noted_of g l e) r ≡ 0 = rw p refl in
          let k = w.0.rows r in
          absurd (omega arith))

  named-alike : (rows : List Row) → ((q : ℕ) → 1 ≤ times q (numbers rows) → g.placed q ≡ true) → Each (λ r. table.row r.no ≡ r) rows → Each (λ r. other.row r.no ≡ r) rows
  named-alike [] h n = tt
  named-alike (r ∷ rows) h n =
      let o = same_is r.no r.no refl in
      (a.row r.no (h r.no (omega arith)) ∙ n.0, named-alike rows (λ q k. h q (omega arith)) n.1)

  block-alike : (cells : TreeCells) (b : ℕ) → IsTree table cells g → g.inside b ≡ true → b ≢ cells.gate_cell → BlockOk other g b (cells.block b)
  block-alike cells b tree bi bg =
      let ok = tree.blocks b bi bg in
      record {
        kind = ok.kind;
        some = ok.some;
        few = ok.few;
        rows = on_bool (eqb (g.level b) 0)
            (λ z. named-alike (rows_in (cells.block b).body) (λ q k. there q (let t = tree.tree.leaves b bi (eqb-true _ _ z) q in let s = ap (λ (x : Node). times q x.rows) (node-block cells b bg) in omega arith)) ok.rows)
            (λ z. let none : rows_in (cells.block b).body ≡ [] = no-rows (cells.block b).body (ok.kind ∙ z) in subst (Each (λ r. other.row r.no ≡ r)) (sym none) tt);
        room = ok.room;
      }
    where
      there : (q : ℕ) → 1 ≤ lies g b q → g.placed q ≡ true
      there q h = on_bool (g.placed q) (λ p. p) (λ p. let z : lies g b q ≡ 0 = rw p refl in absurd (omega arith))

  pub tree-alike : (cells : TreeCells) → IsTree table cells g → IsTree other cells g
  tree-alike cells t = record {
    tree = record {
      shape = t.tree.shape;
      heads = t.tree.heads;
      leaves = t.tree.leaves;
      dirs = λ b l bi bl. let d = t.tree.dirs b l bi bl in record { entries = entries-alike (nodes cells) l (nodes cells b).entries d.entries; each = d.each };
    };
    top = t.top;
    some = t.some;
    height = t.height;
    level = t.level;
    only = t.only;
    entered = t.entered;
    heads = t.heads;
    alone = t.alone;
    numbered = λ r p. rw (a.row r p, a.hierarchy) (t.numbered r p);
    blocks = λ b bi bg. block-alike cells b t bi bg;
  }

pub query-alike : (table other : Table) (g : Shape) (look : ℕ → Node) (must : ℕ → Bool) (f : List Pick) (items : List Item) (counted : List ℕ)
    → AreAlike (IsThereOrCounted g counted) table other → IsUnfinished g look must (fits table f) items counted → AfterTable table other g look must f items counted
query-alike table other g look must f items counted a u = record {
  unfinished = record {
    noted = u.noted;
    are = u.are;
    ok = record {
      noted = u.ok.noted;
      blocks = u.ok.blocks;
      distinct = u.ok.distinct;
      fitting = λ r h. same_fit r (inr h) ∙ u.ok.fitting r h;
      once = u.ok.once;
      whole = λ r p m q. u.ok.whole r p m (sym (same_fit r (inl p)) ∙ q);
      passed = u.ok.passed;
    };
  };
  total = ap agg (rows-alike (IsThereOrCounted g counted) table other a counted (λ r h. inr h));
}
  where
    same_fit : (r : ℕ) → IsThereOrCounted g counted r → fits other f r ≡ fits table f r
    same_fit r h = rw (a.row r h, a.hierarchy) refl

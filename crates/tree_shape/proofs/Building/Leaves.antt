-- Leaves in cells of their own are a forest
use Rattle.std.proofs.{Common.{◌≡◌, ℕ, ◌≤◌, true, false, cond, eqb, leb, List, [], ◌∷◌, refl, sym, ◌∙◌, arith}, lemmas.Bool.{eqb-true, eqb-false, leb-false, le-leb, leb-true}}
use Rattle.dim_hierarchy.specs.Rows.{IsRowOf}
use Rattle.dc_node.specs.{Block.{rows_in, is_leaf, size}, declared.block.Block.Block, declared.entry.Entry.Entry}
use Rattle.link_descent.specs.{Descend.IsEntryOf, declared.entered.Fresh.Fresh}
use Rattle.list_words.specs.Counts.{Each, same, times, total}
use Rattle.list_words.proofs.{Each.each-all, Times.same_not, Totals.total-has, Truth.on_bool}
use Rattle.tree_shape.specs.{Forest.{AreLeafBlocks, IsForest, LeavesLaw, all_rows, filled_cells}, Shape.{Shape, ShapeOk, Table, node_of, numbers}, Trees.{BlockOk, EntryOk, limit}}
use Rattle.tree_shape.proofs.{Building.Forests.{unit, at-cell, rows-cells, each-items, row-known, leaf-summary}, Building.Storeys.{pick, pick-in, pick-is}, Whole.Sums.sum-leaf}

module _ (table : Table) (block : ℕ → Block) (leaves : List Fresh) (d : AreLeafBlocks table block leaves) where
  abbrev cs : List ℕ
  cs = filled_cells leaves

  abbrev ns : List ℕ
  ns = numbers (all_rows leaves)

  abbrev holds : ℕ → ℕ → ℕ
  holds r c = times r (numbers (rows_in (block c).body))

  abbrev leaves_shape : Shape
  leaves_shape = record {
    height = 1;
    inside = λ y. leb 1 (times y cs);
    level = λ y. 0;
    above = λ y m. y;
    head = λ y. y;
    group = λ y. y ∷ [];
    below = λ y. numbers (rows_in (block y).body);
    placed = λ r. leb 1 (times r ns);
    carried = λ r. false;
    at = λ r. pick (holds r) cs;
  }

  held : (r : ℕ) → 1 ≤ times r ns → total (holds r) cs ≡ 1
  held r n = let a = rows-cells block leaves r d.stand in let b = d.rows.once r in omega arith

  -- how often a row is in the leaf in a cell
  lies-in : (r b : ℕ) → 1 ≤ times b cs → holds r b ≡ cond (leb 1 (times r ns)) (same (pick (holds r) cs) b) 0
  lies-in r b n = on_bool (leb 1 (times r ns))
      (λ p. rw p (pick-is (holds r) cs b (held r (leb-true _ _ p)) d.apart n))
      (λ p. let z = leb-false _ _ p in
      let a = rows-cells block leaves r d.stand in
      let m = total-has (holds r) b cs n in
      rw p (omega arith))

  shape-leaves : ShapeOk leaves_shape
  shape-leaves = record {
    itself = λ y i. refl;
    below = λ y i. omega arith;
    higher = λ y m i le lt. (i, omega arith);
    coherent = λ y m n i le mn lt. refl;
    stands = λ r p. let h = held r (leb-true _ _ p) in le-leb _ _ (pick-in (holds r) cs (omega arith));
    settled = λ r p f. refl;
  }

  leaf-at : (b : ℕ) → 1 ≤ times b cs → is_leaf (block b).body ≡ true
  leaf-at b n = at-cell (λ x. is_leaf x.body ≡ true) block leaves b d.stand d.kind n

  named-at : (b : ℕ) → 1 ≤ times b cs → Each (λ r. table.row r.no ≡ r) (rows_in (block b).body)
  named-at b n = at-cell (λ x. Each (λ r. table.row r.no ≡ r) (rows_in x.body)) block leaves b d.stand
      (each-items (λ r. table.row r.no ≡ r) (λ x. rows_in x.body) leaves (each-all (λ r. table.row r.no ≡ r) (all_rows leaves) d.rows.named)) n

  valid-at : (b : ℕ) → 1 ≤ times b cs → Each (IsRowOf table.hierarchy) (rows_in (block b).body)
  valid-at b n = at-cell (λ x. Each (IsRowOf table.hierarchy) (rows_in x.body)) block leaves b d.stand
      (each-items (IsRowOf table.hierarchy) (λ x. rows_in x.body) leaves (each-all (IsRowOf table.hierarchy) (all_rows leaves) d.rows.valid)) n

  leaf-block : (b : ℕ) → 1 ≤ times b cs → BlockOk table leaves_shape b (block b)
  leaf-block b n = record {
    kind = leaf-at b n;
    some = λ up. absurd (omega arith);
    few = at-cell (λ x. size x.body ≤ limit x.body) block leaves b d.stand d.few n;
    rows = named-at b n;
    room = λ r p c a. cc;
  }

  leaf-entry : (e : Entry) → 1 ≤ times e.child cs → IsEntryOf table.hierarchy e.child (block e.child) e → EntryOk leaves_shape (λ c. node_of (block c)) table 0 e
  leaf-entry e n w =
      let s = leaf-summary table.hierarchy (block e.child).body e.agg e.set (leaf-at e.child n) w.summary in
      record {
        group = record {
          walks = ([], refl, sym w.stamp);
          low = omega arith;
          cells = λ y on. on_bool (eqb y e.child)
              (λ q. let is = eqb-true _ _ q in rw is (le-leb _ _ n, refl))
              (λ q. let o = same_not y e.child (eqb-false _ _ q) in absurd (omega arith));
        };
        members = λ y i lv. omega arith;
        rows = λ r. lies-in r e.child n ∙ on_bool (leb 1 (times r ns)) (λ p. rw p (omega arith)) (λ p. rw p refl);
        summary = sum-leaf table (rows_in (block e.child).body) e (named-at e.child n) (valid-at e.child n) s.0 s.1;
      }

  pub leaves-forest : IsForest table block 0 (filled_cells leaves) (filled_cells leaves) (numbers (all_rows leaves))
  leaves-forest = record {
    shape = leaves_shape;
    height = refl;
    tree = record {
      shape = shape-leaves;
      heads = λ y i. i;
      leaves = λ b i lv r. lies-in r b (leb-true _ _ i);
      dirs = λ b m i lv. absurd (omega arith);
    };
    blocks = λ b i. leaf-block b (leb-true _ _ i);
    inside = λ y. unit (times y cs) (d.apart y);
    at_top = λ y. unit (times y cs) (d.apart y);
    heads = λ y. refl;
    groups = λ y. refl;
    placed = λ r. unit (times r ns) (d.rows.once r);
    settled = λ r. refl;
    numbered = λ r p. row-known table (all_rows leaves) r d.rows.named d.rows.valid (leb-true _ _ p);
    entries = leaf-entry;
  }

pub leaves-law : LeavesLaw
leaves-law table block leaves d = leaves-forest table block leaves d

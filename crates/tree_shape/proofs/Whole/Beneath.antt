-- The rows in the blocks of a group are beneath its entry, so that they are no more than it counts
use Rattle.std.proofs.{Common.{◌≡◌, ◌≢◌, ℕ, ◌+◌, ◌-◌, ◌<◌, ◌≤◌, true, false, cond, eqb, leb, List, [], ◌∷◌, ◌++◌, length, map, take, drop, refl, sym, ap, ◌∙◌, subst, arith}, lemmas.Bool.{eqb-true, eqb-false, leb-true, leb-false}, lemmas.List.{length-map, take-append-drop}}
use Rattle.std.specs.Prelude.{Some, slice_get}
use Rattle.dim_hierarchy.specs.Dimension.{IsHierarchy}
use Rattle.dc_node.specs.{Block.{rows_in, entries_in, is_leaf, IsBodyOf}, Summary.row_count, declared.block.Block.Block, declared.block.Body.Body, declared.block.Body.TheVariants.{Rows, Entries}, declared.entry.Entry.Entry}
use Rattle.link_descent.specs.shard_store.specs.Gate.{root_entry}
use Rattle.link_descent.specs.Divide.{together}
use Rattle.list_words.specs.Counts.{Each, same, times, total}
use Rattle.list_words.proofs.{Each.{each-map, all-each, each-mapped}, Times.{same_is, each-times, length-le}, Totals.total-append, Truth.on_bool}
use Rattle.tree_shape.specs.{Shape.{Node, Shape, Table, TreeCells, node_of, nodes, numbers}, Trees.{BehindFits, EntryOk, IsBehind, IsTree, TreeOk, cells_behind, lies}}
use Rattle.tree_shape.proofs.{Cutting.Divisions.{beneath-each, sums-low, sums-high, sums-out}, Cutting.Relations.{all_below, group_rows, part_rows, block_rows}, Whole.Assembled.node-block, Whole.Groups.{each-entry, group_rows-times, leaf-together, rows-together}, Whole.Totals.{IsCounted, block-fits, entry-counted, entry-leads, has-behind, joined-below, root-leads}}

-- how often a row of the tree is at a block of the level k, or hangs under it
abbrev hangs : Shape → ℕ → ℕ → ℕ → ℕ
hangs g k r y = cond (g.placed r) (cond (leb (g.level (g.at r)) k) (times (g.above (g.at r) k) (y ∷ [])) 0) 0

le-leb : (a b : ℕ) → a ≤ b → leb a b ≡ true
le-leb a b h = on_bool (leb a b) (λ q. q) (λ q. let gt = leb-false _ _ q in absurd (omega arith))

-- the rows of a leaf, and those beneath the entries of a directory, hang under it
module _ (g : Shape) (look : ℕ → Node) (table : Table) (tree : TreeOk g look table) (k y r : ℕ) (yi : g.inside y ≡ true) (yl : g.level y ≡ k) where
  leaf-hangs : k ≡ 0 → times r (look y).rows ≤ hangs g k r y
  leaf-hangs z =
      let t : times r (look y).rows ≡ lies g y r = tree.leaves y yi (yl ∙ z) r in
      on_bool (g.placed r)
      (λ p. on_bool (g.carried r)
      (λ c. let e : lies g y r ≡ 0 = rw (p, c) refl in omega arith)
      (λ c.
      let e : lies g y r ≡ same (g.at r) y = rw (p, c) refl in
      let low : g.level (g.at r) ≡ 0 = tree.shape.settled r p c in
      let self : g.above (g.at r) k ≡ g.at r = ap (g.above (g.at r)) (z ∙ sym low) ∙ tree.shape.itself (g.at r) (tree.shape.stands r p) in
      let le : leb (g.level (g.at r)) k ≡ true = le-leb (g.level (g.at r)) k (omega arith) in
      let h : hangs g k r y ≡ same (g.at r) y + 0 = rw (p, le, self) refl in
      omega arith))
      (λ p. let e : lies g y r ≡ 0 = rw p refl in omega arith)

  dir-hangs : (l : ℕ) → k ≡ l + 1 → total (λ e. times r (g.below e.child)) (look y).entries ≤ hangs g k r y
  dir-hangs l kl =
      let d = tree.dirs y l yi (yl ∙ kl) in
      on_bool (g.placed r)
      (λ p. on_bool (leb (g.level (g.at r)) l)
      (λ q.
      let low = leb-true _ _ q in
      let si = tree.shape.stands r p in
      let top = tree.shape.below y yi in
      let u = tree.shape.higher (g.at r) l si low (omega arith) in
      let a = sums-low g look table l r (look y).entries d.entries p low in
      let e = d.each (g.above (g.at r) l) u.0 u.1 in
      let up : g.above (g.above (g.at r) l) (l + 1) ≡ g.above (g.at r) k = tree.shape.coherent (g.at r) l (l + 1) si low (omega arith) (omega arith) ∙ ap (g.above (g.at r)) (sym kl) in
      let s : same (g.above (g.above (g.at r) l) (l + 1)) y ≡ same (g.above (g.at r) k) y = ap (λ (x : ℕ). same x y) up in
      let le : leb (g.level (g.at r)) k ≡ true = le-leb (g.level (g.at r)) k (omega arith) in
      let h : hangs g k r y ≡ same (g.above (g.at r) k) y + 0 = rw (p, le) refl in
      omega arith)
      (λ q. let a = sums-high g look table l r (look y).entries d.entries p (leb-false _ _ q) in omega arith))
      (λ p. let a = sums-out g look table l r (look y).entries d.entries p in omega arith)

  part-hangs : part_rows g (look y) k r ≤ hangs g k r y
  part-hangs = on_bool (eqb k 0)
      (λ q.
      let e : part_rows g (look y) k r ≡ times r (look y).rows = rw q refl in
      let h = leaf-hangs (eqb-true _ _ q) in
      omega arith)
      (λ q.
      let n = eqb-false _ _ q in
      let e : part_rows g (look y) k r ≡ total (λ e. times r (g.below e.child)) (look y).entries = rw q refl in
      let h = dir-hangs (k - 1) (omega arith) in
      omega arith)

pub total-le : {A : Type 0} (f h : A → ℕ) (xs : List A) → Each (λ x. f x ≤ h x) xs → total f xs ≤ total h xs
total-le f h [] e = omega arith
total-le f h (x ∷ xs) e = let a = e.0 in let b = total-le f h xs e.1 in omega arith

-- the rows of the first blocks of an entry's group are beneath it
group-beneath : (g : Shape) (look : ℕ → Node) (table : Table) (k : ℕ) (e : Entry) (front back : List ℕ) (r : ℕ) → TreeOk g look table → EntryOk g look table k e → g.group e.child ≡ front ++ back
    → times r (group_rows g look k front) ≤ times r (g.below e.child)
group-beneath g look table k e front back r tree ok is =
    let parts = group_rows-times g look k r front in
    let few = total-le (λ y. part_rows g (look y) k r) (hangs g k r) front (each-times (λ y. part_rows g (look y) k r ≤ hangs g k r y) front (λ y h.
    let on = ap (times y) is in
    let w = ok.group.cells y (omega (arith, total-append (same y) front back)) in
    part-hangs g look table tree k y r w.0 w.1)) in
    let whole : total (hangs g k r) (front ++ back) ≡ times r (g.below e.child) =
    ap (total (hangs g k r)) (sym is) ∙ beneath-each (g.placed r) (leb (g.level (g.at r)) k) (g.above (g.at r) k) (g.group e.child) ∙ sym (ok.rows r) in
    let both = total-append (hangs g k r) front back in
    omega arith

-- as many rows are beneath the items of a body as these have
body-count : (g : Shape) (body : Body) (z : ℕ) → is_leaf body ≡ eqb z 0 → Each (IsCounted g) (entries_in body)
    → row_count body ≡ length (cond (eqb z 0) (numbers (rows_in body)) (all_below g (entries_in body)))
body-count g (Rows rows) z kind counted =
    let q : eqb z 0 ≡ true = sym kind in
    rw q (sym (length-map rows.items (λ r. r.no)))
body-count g (Entries entries) z kind counted =
    let q : eqb z 0 ≡ false = sym kind in
    rw q (joined-below g entries.items counted)

module _ (table : Table) (cells : TreeCells) (g : Shape) (t : IsTree table cells g) (k : ℕ) (e : Entry) (low : k < cells.gate.height) (ok : EntryOk g (nodes cells) table k e) where
  off-gate : (y : ℕ) → g.level y ≡ k → y ≢ cells.gate_cell
  off-gate y lv q = let a = ap g.level q in let b = t.level in absurd (omega arith)

  is : (y : ℕ) → g.level y ≡ k → nodes cells y ≡ node_of (cells.block y)
  is y lv = node-block cells y (off-gate y lv)

  -- the entries of a block on the level count the rows beneath them
  counted : (y : ℕ) → g.inside y ≡ true → g.level y ≡ k → Each (IsCounted g) (entries_in (cells.block y).body)
  counted y yi yl = on_bool (eqb (g.level y) 0)
      (λ q. leaf (cells.block y).body ((t.blocks y yi (off-gate y yl)).kind ∙ q))
      (λ q.
      let n = eqb-false _ _ q in
      let d = t.tree.dirs y (k - 1) yi (omega arith) in
      subst (λ (b : Node). Each (IsCounted g) b.entries) (is y yl) (each-map (EntryOk g (nodes cells) table (k - 1)) (IsCounted g) (nodes cells y).entries (entry-counted g (nodes cells) table (k - 1)) d.entries))
    where
      leaf : (body : Body) → is_leaf body ≡ true → Each (IsCounted g) (entries_in body)
      leaf (Rows rows) q = tt
      leaf (Entries entries) q = cc

  -- the items of the head and of the first blocks behind it
  behind-count : (front back : List ℕ) → g.group e.child ≡ e.child ∷ front ++ back → row_count (together (cells.block e.child).body (map cells.block front)) ≤ e.agg.count
  behind-count front back split =
      let on : (y : ℕ) → 1 ≤ times y (e.child ∷ front) → (g.inside y ≡ true) × (g.level y ≡ k) =
      λ y h. (let w = ap (times y) split in ok.group.cells y (omega (arith, total-append (same y) front back))) in
      let c = on e.child (let o = same_is e.child e.child refl in omega arith) in
      let behind : (y : ℕ) → 1 ≤ times y front → (g.inside y ≡ true) × (g.level y ≡ k) = λ y h. on y (omega arith) in
      let head : Body = (cells.block e.child).body in
      let all : Body = together head (map cells.block front) in
      let kind : is_leaf head ≡ eqb k 0 = (t.blocks e.child c.0 (off-gate e.child c.1)).kind ∙ ap (λ (x : ℕ). eqb x 0) c.1 in
      let count = body-count g all k (leaf-together head (map cells.block front) ∙ kind)
      (each-entry (IsCounted g) head (map cells.block front) (counted e.child c.0 c.1)
      (each-mapped (λ (b : Block). Each (IsCounted g) (entries_in b.body)) cells.block front
      (each-times (λ y. Each (IsCounted g) (entries_in (cells.block y).body)) front (λ y h. let w = behind y h in counted y w.0 w.1)))) in
      let rows = rows-together g (nodes cells) k cells.block head front kind (each-times (λ y. nodes cells y ≡ node_of (cells.block y)) front (λ y h. is y (behind y h).1)) in
      let mine : block_rows g (nodes cells e.child) k ≡ cond (eqb k 0) (numbers (rows_in head)) (all_below g (entries_in head)) = ap (λ (b : Node). block_rows g b k) (is e.child c.1) in
      let whole : group_rows g (nodes cells) k (e.child ∷ front) ≡ cond (eqb k 0) (numbers (rows_in all)) (all_below g (entries_in all)) =
      ap (λ (ns : List ℕ). ns ++ group_rows g (nodes cells) k front) mine ∙ sym rows in
      let few = length-le (group_rows g (nodes cells) k (e.child ∷ front)) (g.below e.child) (λ r. group-beneath g (nodes cells) table k e (e.child ∷ front) back r t.tree ok split) in
      let size = ap length whole in
      let below = entry-counted g (nodes cells) table k e ok in
      omega arith

  behind-fits : (n : ℕ) → IsHierarchy table.hierarchy → BehindFits table cells e n
  behind-fits n w =
      let found = has-behind table cells g t k e low ok n in
      let zs : List ℕ = ok.group.walks.0 in
      let front : take n zs ≡ cells_behind cells.block e.stamp n e.child = ap (λ (ws : List ℕ). take n (drop 1 ws)) (sym ok.group.walks.1) ∙ found.found in
      let split : g.group e.child ≡ e.child ∷ take n zs ++ drop n zs = ok.group.walks.1 ∙ ap (λ (ws : List ℕ). e.child ∷ ws) (sym (take-append-drop n zs)) in
      record {
        bodies = all-each (λ (b : Block). IsBodyOf table.hierarchy b.body) (map cells.block (cells_behind cells.block e.stamp n e.child))
            (each-mapped (λ (b : Block). IsBodyOf table.hierarchy b.body) cells.block (cells_behind cells.block e.stamp n e.child)
            (each-map (IsBehind cells g e.child) (λ y. IsBodyOf table.hierarchy (cells.block y).body) (cells_behind cells.block e.stamp n e.child)
            (λ y b. (block-fits table cells g t y b.inside b.block w).body) found.behind));
        count = subst (λ (ws : List ℕ). row_count (together (cells.block e.child).body (map cells.block ws)) ≤ e.agg.count) front (behind-count (take n zs) (drop n zs) split);
      }

pub entry-behind-fits : (table : Table) (cells : TreeCells) (g : Shape) (b place n : ℕ) (e : Entry) → IsTree table cells g → IsHierarchy table.hierarchy → g.inside b ≡ true → b ≢ cells.gate_cell
    → slice_get (entries_in (cells.block b).body) place ≡ Some e → BehindFits table cells e n
entry-behind-fits table cells g b place n e t w bi bg at = let l = entry-leads table cells g b place e t bi bg at in behind-fits table cells g t l.level e l.low l.ok n w

pub root-behind-fits : (table : Table) (cells : TreeCells) (g : Shape) (n : ℕ) → IsTree table cells g → IsHierarchy table.hierarchy → BehindFits table cells (root_entry cells.gate) n
root-behind-fits table cells g n t w = let l = root-leads table cells g t in behind-fits table cells g t l.level (root_entry cells.gate) l.low l.ok n w

-- Two shapes of one tree place the same rows, where through the one of them no row is on its way: its leaves have no row that the other
-- one doesn't place, and the gate counts as many rows by both.
use Rattle.std.proofs.{Common.{ℕ, zero, suc, ◌≡◌, ◌+◌, ◌-◌, ◌<◌, ◌≤◌, Option, Some, true, cond, leb, List, [], ◌∷◌, ◌++◌, length, map, refl, sym, ap, ◌∙◌, subst, arith}, lemmas.Bool.{leb-false, leb-true}, lemmas.List.length-append}
use Rattle.std.specs.List.{flat_map}
use Rattle.dc_node.specs.{Block.{rows_in, entries_in}, declared.block.Block.Block, declared.entry.Entry.Entry}
use Rattle.core_image.specs.shard_store.specs.{Gate.root_entry, declared.gate.Gate.Gate}
use Rattle.core_image.specs.tree_shape.specs.{PageLines.{CellBlocks, group, group_entries}, Shape.{Table, Node, TreeCells, node_of, nodes, Shape, numbers}, Trees.{EntryOk, IsTree, lies}, Walks.{IsTail, noted_of}}
use Rattle.core_pages.specs.Still.{cells_with, IsStill}
use Rattle.list_words.proofs.{Each.{each-made, each-flat, each-both}, Times.{each-times, split-at, times-split, same_is}, Totals.{total-none, total-flat, total-same, total-map}, Truth.on_bool}
use Rattle.list_words.specs.Counts.{Each, same, times, total}
use Rattle.core_pages.proofs.{Counts.{IsEntry, group-is, entries-ok, root-ok, rows-ok}, Listing.{leaf_rows, rows_at}, Numbers.times-flat}
use Rattle.core_image.specs.tree_shape.proofs.{Cutting.Divisions.{sums-high, sums-low, sums-out}, Reading.Queries.reach-low, Whole.Assembled.{node-block, node-gate}, Whole.Beneath.total-le, Whole.Totals.{entry-counted, reach-root}}

-- walks along right links to one stamp are the same
same-tail : (look : ℕ → Node) (stamp y : ℕ) (zs us : List ℕ) → IsTail look stamp y zs → IsTail look stamp y us → zs ≡ us
same-tail look stamp y [] [] a b = refl
same-tail look stamp y [] (u ∷ us) a b = absurd (b.0 a)
same-tail look stamp y (z ∷ zs) [] a b = absurd (a.0 b)
same-tail look stamp y (z ∷ zs) (u ∷ us) a b =
    let both : ◌≡◌ {A = Option ℕ} (Some z) (Some u) = sym a.1 ∙ b.1 in
    let e : z ≡ u = cc in
    let rest = same-tail look stamp z zs us a.2 (subst (λ (x : ℕ). IsTail look stamp x us) (sym e) b.2) in
    (λ k. e k ∷ rest k)

-- lists of the same length, of which the one has no number oftener than the other, have each as often
same-times : (xs ys : List ℕ) → ((r : ℕ) → times r xs ≤ times r ys) → length xs ≡ length ys → (r : ℕ) → times r xs ≡ times r ys
same-times [] [] h e r = refl
same-times [] (y ∷ ys) h e r = absurd (omega arith)
same-times (x ∷ xs) ys h e r =
    let a = h x in
    let o = same_is x x refl in
    let w = split-at x ys (omega arith) in
    let l = ap length w.is in
    let p = length-append w.front (x ∷ w.back) in
    let q = length-append w.front w.back in
    let ih = same-times xs (w.front ++ w.back) (λ n. let b = h n in let y = ap (times n) w.is in let z = times-split x n w.front w.back in omega arith) (omega arith) r in
    let y = ap (times r) w.is in
    let z = times-split x r w.front w.back in
    omega arith

module _ (table : Table) (home : ℕ) (gate : Gate) (blocks : CellBlocks) (g0 g : Shape) (still : IsStill table home gate blocks g0) (t : IsTree table (cells_with home gate blocks) g) where
  abbrev cells : TreeCells
  cells = cells_with home gate blocks

  abbrev look : ℕ → Node
  look = nodes cells

  abbrev IsHere : ℕ → ℕ → Type 0
  IsHere l y = (g.inside y ≡ true) × (g.level y ≡ l)

  abbrev Ok0 : ℕ → Entry → Type 0
  Ok0 l e = IsEntry table home gate blocks g0 still l e

  abbrev Ok : ℕ → Entry → Type 0
  Ok l e = EntryOk g look table l e

  -- an entry's group is the same by both
  group-here : (l : ℕ) (e : Entry) → l < gate.height → Ok0 l e → Ok l e → group blocks e ≡ map (blocks.block) (g.group e.child)
  group-here l e lt a b =
      let tail : a.group.walks.0 ≡ b.group.walks.0 = same-tail look e.stamp e.child a.group.walks.0 b.group.walks.0 a.group.walks.2 b.group.walks.2 in
      let same : g0.group e.child ≡ g.group e.child = a.group.walks.1 ∙ ap (λ zs. e.child ∷ zs) tail ∙ sym b.group.walks.1 in
      group-is table home gate blocks g0 still l e lt a ∙ ap (map (blocks.block)) same

  on-level : (l : ℕ) (e : Entry) → Ok l e → Each (IsHere l) (g.group e.child)
  on-level l e ok = each-times (IsHere l) (g.group e.child) ok.group.cells

  node-is : (l y : ℕ) → l < gate.height → IsHere l y → look y ≡ node_of (blocks.block y)
  node-is l y lt on = node-block cells y (λ e. let a = on.1 in let b = ap g.level e in let c = t.level in absurd (omega arith))

  -- rows of leaves

  leaf-le : (e : Entry) → 0 < gate.height → Ok0 0 e → Ok 0 e → (r : ℕ) → times r (numbers (leaf_rows blocks e)) ≤ times r (g.below e.child)
  leaf-le e lt a ok r =
      let ws = g.group e.child in
      let in_cell : ℕ → ℕ = λ y. times r (numbers (rows_in (blocks.block y).body)) in
      let lie : (y : ℕ) → IsHere 0 y → in_cell y ≡ lies g y r = λ y on. ap (λ (n : Node). times r n.rows) (sym (node-is 0 y lt on)) ∙ t.tree.leaves y on.0 on.1 r in
      let all : times r (numbers (leaf_rows blocks e)) ≡ total in_cell ws =
      ap (λ bs. times r (numbers (flat_map (λ (b : Block). rows_in b.body) bs))) (group-here 0 e lt a ok)
      ∙ times-flat (λ (b : Block). rows_in b.body) r (map (blocks.block) ws)
      ∙ total-map (λ (b : Block). times r (numbers (rows_in b.body))) (blocks.block) ws in
      let none : ((y : ℕ) → lies g y r ≡ 0) → times r (numbers (leaf_rows blocks e)) ≤ times r (g.below e.child) =
      λ z. (let sum : total in_cell ws ≡ total (λ (_ : ℕ). 0) ws = total-same (IsHere 0) in_cell (λ _. 0) ws (λ y on. lie y on ∙ z y) (on-level 0 e ok) in
      let nothing = total-none ws in omega arith) in
      on_bool (g.placed r)
      (λ p. on_bool (g.carried r)
      (λ c. none (λ y. (rw (p, c) refl)))
      (λ c.
      let si = t.tree.shape.stands r p in
      let z = t.tree.shape.settled r p c in
      let here : g.above (g.at r) 0 ≡ g.at r = ap (g.above (g.at r)) (sym z) ∙ t.tree.shape.itself (g.at r) si in
      let sum : total in_cell ws ≡ times (g.at r) ws = total-same (IsHere 0) in_cell (λ y. same (g.at r) y) ws (λ y on. lie y on ∙ (rw (p, c) refl)) (on-level 0 e ok) in
      let low = reach-low g (noted_of g 0 e) (g.at r) (omega arith) in
      let whole : times r (g.below e.child) ≡ times (g.at r) ws = ok.rows r ∙ (rw p low) ∙ ap (λ y. times y ws) here in
      omega arith))
      (λ p. none (λ y. (rw p refl)))

  -- rows beneath directories

  entries-here : (l k : ℕ) (e : Entry) → k ≡ l + 1 → k < gate.height → Ok0 k e → Ok k e → Each (Ok l) (group_entries blocks e)
  entries-here l k e up lt a ok = subst (λ bs. Each (Ok l) (flat_map (λ (b : Block). entries_in b.body) bs)) (sym (group-here k e lt a ok))
      (each-flat (Ok l) (λ (b : Block). entries_in b.body) (map (blocks.block) (g.group e.child))
      (each-made (IsHere k) (λ (b : Block). Each (Ok l) (entries_in b.body)) (blocks.block) (g.group e.child)
      (λ y on. subst (λ (n : Node). Each (Ok l) n.entries) (node-is k y lt on) (t.tree.dirs y l on.0 (on.1 ∙ up)).entries) (on-level k e ok)))

  dir-le : (l k : ℕ) (e : Entry) → k ≡ l + 1 → k < gate.height → Ok0 k e → Ok k e → (r : ℕ) → total (λ x. times r (g.below x.child)) (group_entries blocks e) ≤ times r (g.below e.child)
  dir-le l k e up lt a ok r =
      let ws = g.group e.child in
      let w : Entry → ℕ = λ x. times r (g.below x.child) in
      let in_cell : ℕ → ℕ = λ y. total w (entries_in (blocks.block y).body) in
      let seen : (y : ℕ) → IsHere k y → in_cell y ≡ total w (look y).entries = λ y on. ap (λ (n : Node). total w n.entries) (sym (node-is k y lt on)) in
      let all : total w (group_entries blocks e) ≡ total in_cell ws =
      ap (λ bs. total w (flat_map (λ (b : Block). entries_in b.body) bs)) (group-here k e lt a ok)
      ∙ total-flat w (λ (b : Block). entries_in b.body) (map (blocks.block) ws)
      ∙ total-map (λ (b : Block). total w (entries_in b.body)) (blocks.block) ws in
      let none : ((y : ℕ) → IsHere k y → total w (look y).entries ≡ 0) → total w (group_entries blocks e) ≤ times r (g.below e.child) =
      λ z. (let sum : total in_cell ws ≡ total (λ (_ : ℕ). 0) ws = total-same (IsHere k) in_cell (λ _. 0) ws (λ y on. seen y on ∙ z y on) (on-level k e ok) in
      let nothing = total-none ws in omega arith) in
      on_bool (g.placed r)
      (λ p. on_bool (leb (g.level (g.at r)) l)
      (λ q.
      let low = leb-true _ _ q in
      let si = t.tree.shape.stands r p in
      let each : (y : ℕ) → IsHere k y → total w (look y).entries ≡ same (g.above (g.at r) k) y =
      λ y on. (let d = t.tree.dirs y l on.0 (on.1 ∙ up) in
      let top = t.tree.shape.below y on.0 in
      let at = on.1 in
      let u = t.tree.shape.higher (g.at r) l si low (omega arith) in
      let there = t.tree.shape.coherent (g.at r) l (l + 1) si low (omega arith) (omega arith) in
      sums-low g look table l r (look y).entries d.entries p low ∙ d.each (g.above (g.at r) l) u.0 u.1 ∙ ap (λ x. same x y) (there ∙ ap (g.above (g.at r)) (sym up))) in
      let sum : total in_cell ws ≡ times (g.above (g.at r) k) ws = total-same (IsHere k) in_cell (λ y. same (g.above (g.at r) k) y) ws (λ y on. seen y on ∙ each y on) (on-level k e ok) in
      let reach = reach-low g (noted_of g k e) (g.at r) (omega arith) in
      let whole : times r (g.below e.child) ≡ times (g.above (g.at r) k) ws = ok.rows r ∙ (rw p reach) in
      omega arith)
      (λ q. none (λ y on. sums-high g look table l r (look y).entries (t.tree.dirs y l on.0 (on.1 ∙ up)).entries p (leb-false _ _ q))))
      (λ p. none (λ y on. sums-out g look table l r (look y).entries (t.tree.dirs y l on.0 (on.1 ∙ up)).entries p))

  -- rows beneath entries

  rows-le : (l : ℕ) (e : Entry) → l < gate.height → Ok0 l e → Ok l e → (r : ℕ) → times r (numbers (rows_at blocks l e)) ≤ times r (g.below e.child)
  rows-le zero e lt a ok r = leaf-le e lt a ok r
  rows-le (suc l) e lt a ok r =
      let flat = times-flat (λ x. rows_at blocks l x) r (group_entries blocks e) in
      let each = total-le (λ x. times r (numbers (rows_at blocks l x))) (λ x. times r (g.below x.child)) (group_entries blocks e)
      (each-both (Ok0 l) (Ok l) (λ x. times r (numbers (rows_at blocks l x)) ≤ times r (g.below x.child)) (group_entries blocks e) (λ x b o. rows-le l x (omega arith) b o r)
      (entries-ok table home gate blocks g0 still l (suc l) e (omega arith) lt a) (entries-here l (suc l) e (omega arith) lt a ok)) in
      let d = dir-le l (suc l) e (omega arith) lt a ok r in
      omega arith

  -- the root

  home-up : g.level home ≡ (gate.height - 1) + 1
  home-up = let a = t.level in let b = t.some in omega arith

  root-node : (look home).entries ≡ root_entry gate ∷ []
  root-node = ap (λ (n : Node). n.entries) (node-gate cells)

  root-here : Ok (gate.height - 1) (root_entry gate)
  root-here = (subst (Each (Ok (gate.height - 1))) root-node (t.tree.dirs home (gate.height - 1) t.top home-up).entries).0

  root-all : (r : ℕ) → times r (g.below gate.root) ≡ cond (g.placed r) 1 0
  root-all r = root-here.rows r ∙ on_bool (g.placed r)
      (λ p. rw p (reach-root table cells g t (g.at r) (t.tree.shape.stands r p) (t.entered r p)))
      (λ p. rw p refl)

  pub same-placed : (r : ℕ) → times r (g0.below gate.root) ≡ cond (g.placed r) 1 0
  same-placed r =
      let some = t.some in
      let lt : gate.height - 1 < gate.height = omega arith in
      let root0 = root-ok table home gate blocks g0 still in
      let le : (n : ℕ) → times n (g0.below gate.root) ≤ times n (g.below gate.root) =
      λ n. (let a = rows-ok table home gate blocks g0 still (gate.height - 1) (root_entry gate) lt root0 n in
      let b = rows-le (gate.height - 1) (root_entry gate) lt root0 root-here n in omega arith) in
      let many : length (g0.below gate.root) ≡ length (g.below gate.root) =
      sym (entry-counted g0 look table (gate.height - 1) (root_entry gate) root0) ∙ entry-counted g look table (gate.height - 1) (root_entry gate) root-here in
      same-times (g0.below gate.root) (g.below gate.root) le many r ∙ root-all r

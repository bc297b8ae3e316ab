-- What a tree through which no row is on its way has beneath its entries.
use Rattle.std.proofs.Common.{ℕ, zero, suc, ◌≡◌, ◌≢◌, ◌+◌, ◌-◌, ◌<◌, ◌≤◌, true, cond, eqb, [], ◌∷◌, length, map, refl, sym, ap, ◌∙◌, subst, arith}
use Rattle.std.specs.List.{flat_map}
use Rattle.dim_hierarchy.specs.declared.row.Row.{Row}
use Rattle.dc_node.specs.{Block.{rows_in, entries_in}, declared.block.Block.Block, declared.entry.Entry.Entry}
use Rattle.core_image.specs.shard_store.specs.{Gate.root_entry, declared.gate.Gate.Gate}
use Rattle.list_words.specs.Counts.{Each, same, times, total}
use Rattle.list_words.proofs.{Each.{each-map, each-flat, each-made}, Times.{same_is, length-few, each-times}, Totals.{total-map, total-flat, total-same, total-none}, Truth.on_bool}
use Rattle.core_image.specs.tree_shape.specs.{PageLines.{CellBlocks, group, group_entries}, Shape.{Table, Node, TreeCells, nodes, Shape, numbers}, Trees.{EntryOk, BlockOk, lies}, Walks.noted_of}
use Rattle.core_image.specs.tree_shape.proofs.{Cutting.Divisions.{sums-low, sums-out}, Reading.Queries.reach-low, Whole.Assembled.{node-block, node-gate}}
use Rattle.core_pages.specs.Still.{cells_with, IsStill}
use Rattle.core_pages.proofs.{CellWalks.{IsSeen, walk-cells}, Listing.{leaf_rows, rows_at}, Numbers.times-flat}

same-le : (a b : ℕ) → same a b ≤ 1
same-le a b = on_bool (eqb a b) (λ q. rw q (omega arith)) (λ q. rw q (omega arith))

module _ (table : Table) (home : ℕ) (gate : Gate) (blocks : CellBlocks) (g : Shape) (still : IsStill table home gate blocks g) where
  abbrev cells : TreeCells
  cells = cells_with home gate blocks

  abbrev look : ℕ → Node
  look = nodes cells

  abbrev pub IsOn : ℕ → ℕ → Type 0
  IsOn l y = (g.inside y ≡ true) × (g.level y ≡ l)

  abbrev pub IsEntry : ℕ → Entry → Type 0
  IsEntry l e = EntryOk g look table l e

  not-home : (l y : ℕ) → l < gate.height → IsOn l y → y ≢ home
  not-home l y lt on e = let a = on.1 in let b = ap g.level e in let c = still.tree.level in absurd (omega arith)

  seen : (l y : ℕ) → l < gate.height → IsOn l y → IsSeen blocks look y
  seen l y lt on = record { is = node-block cells y (not-home l y lt on); within = still.known y on.0 }

  pub block-ok : (l y : ℕ) → l < gate.height → IsOn l y → BlockOk table g y (blocks.block y)
  block-ok l y lt on = still.tree.blocks y on.0 (not-home l y lt on)

  pub on-level : (l : ℕ) (e : Entry) → IsEntry l e → Each (IsOn l) (g.group e.child)
  on-level l e ok = each-times (IsOn l) (g.group e.child) ok.group.cells

  group-few : (l : ℕ) (e : Entry) → IsEntry l e → length (g.group e.child) ≤ blocks.count
  group-few l e ok = length-few (g.group e.child) (blocks.count) (λ y k.
      let on = ok.group.cells y k in
      let m = ok.members y on.0 on.1 in
      let s = same-le (g.head y) e.child in
      (omega arith, still.known y on.0))

  pub group-some : (l : ℕ) (e : Entry) → IsEntry l e → 1 ≤ length (g.group e.child)
  group-some l e ok = let a = ap length ok.group.walks.1 in omega arith

  -- the blocks that the calls go over are those of the tree's group
  pub group-is : (l : ℕ) (e : Entry) → l < gate.height → IsEntry l e → group blocks e ≡ map (blocks.block) (g.group e.child)
  group-is l e lt ok =
      let w = ok.group.walks in
      let s : Each (IsSeen blocks look) (e.child ∷ w.0) = subst (Each (IsSeen blocks look)) w.1 (each-map (IsOn l) (IsSeen blocks look) (g.group e.child) (λ y. seen l y lt) (on-level l e ok)) in
      let a = ap length w.1 in
      let f = group-few l e ok in
      walk-cells blocks look e.stamp (blocks.count) e.child w.0 s w.2 (omega arith) ∙ ap (map (blocks.block)) (sym w.1)

  -- rows of leaves

  pub leaf-times : (e : Entry) → 0 < gate.height → IsEntry 0 e → (r : ℕ) → times r (numbers (leaf_rows blocks e)) ≡ times r (g.below e.child)
  leaf-times e lt ok r =
      let ws = g.group e.child in
      let in_cell : ℕ → ℕ = λ y. times r (numbers (rows_in (blocks.block y).body)) in
      let lie : (y : ℕ) → IsOn 0 y → in_cell y ≡ lies g y r = λ y on. ap (λ (n : Node). times r n.rows) (sym (seen 0 y lt on).is) ∙ still.tree.tree.leaves y on.0 on.1 r in
      let all : times r (numbers (leaf_rows blocks e)) ≡ total in_cell ws =
      ap (λ bs. times r (numbers (flat_map (λ (b : Block). rows_in b.body) bs))) (group-is 0 e lt ok)
      ∙ times-flat (λ (b : Block). rows_in b.body) r (map (blocks.block) ws)
      ∙ total-map (λ (b : Block). times r (numbers (rows_in b.body))) (blocks.block) ws in
      on_bool (g.placed r)
      (λ p.
      let c = still.settled r p in
      let si = still.tree.tree.shape.stands r p in
      let z = still.tree.tree.shape.settled r p c in
      let here : g.above (g.at r) 0 ≡ g.at r = ap (g.above (g.at r)) (sym z) ∙ still.tree.tree.shape.itself (g.at r) si in
      let sum : total in_cell ws ≡ times (g.at r) ws = total-same (IsOn 0) in_cell (λ y. same (g.at r) y) ws (λ y on. lie y on ∙ (rw (p, c) refl)) (on-level 0 e ok) in
      let low = reach-low g (noted_of g 0 e) (g.at r) (omega arith) in
      all ∙ sum ∙ ap (λ y. times y ws) (sym here) ∙ sym (ok.rows r ∙ (rw p low)))
      (λ p.
      let sum : total in_cell ws ≡ total (λ (_ : ℕ). 0) ws = total-same (IsOn 0) in_cell (λ _. 0) ws (λ y on. lie y on ∙ (rw p refl)) (on-level 0 e ok) in
      all ∙ sum ∙ total-none ws ∙ sym (ok.rows r ∙ (rw p refl)))

  -- rows beneath directories

  dir-sum : (b l r : ℕ) → g.inside b ≡ true → g.level b ≡ l + 1 → total (λ e. times r (g.below e.child)) (look b).entries ≡ cond (g.placed r) (same (g.above (g.at r) (l + 1)) b) 0
  dir-sum b l r bi bl =
      let dir = still.tree.tree.dirs b l bi bl in
      on_bool (g.placed r)
      (λ p.
      let c = still.settled r p in
      let ok = still.tree.tree.shape in
      let si = ok.stands r p in
      let z = ok.settled r p c in
      let top = ok.below b bi in
      let up = ok.higher (g.at r) l si (omega arith) (omega arith) in
      let on = ok.coherent (g.at r) l (l + 1) si (omega arith) (omega arith) (omega arith) in
      rw p (sums-low g look table l r (look b).entries dir.entries p (omega arith) ∙ dir.each (g.above (g.at r) l) up.0 up.1 ∙ ap (λ y. same y b) on))
      (λ p. rw p (sums-out g look table l r (look b).entries dir.entries p))

  pub entries-ok : (l k : ℕ) (e : Entry) → k ≡ l + 1 → k < gate.height → IsEntry k e → Each (IsEntry l) (group_entries blocks e)
  entries-ok l k e up lt ok = subst (λ bs. Each (IsEntry l) (flat_map (λ (b : Block). entries_in b.body) bs)) (sym (group-is k e lt ok))
      (each-flat (IsEntry l) (λ (b : Block). entries_in b.body) (map (blocks.block) (g.group e.child))
      (each-made (IsOn k) (λ (b : Block). Each (IsEntry l) (entries_in b.body)) (blocks.block) (g.group e.child)
      (λ y on. subst (λ (n : Node). Each (IsEntry l) n.entries) (seen k y lt on).is (still.tree.tree.dirs y l on.0 (on.1 ∙ up)).entries) (on-level k e ok)))

  pub dir-times : (l k : ℕ) (e : Entry) → k ≡ l + 1 → k < gate.height → IsEntry k e → (r : ℕ) → total (λ x. times r (g.below x.child)) (group_entries blocks e) ≡ times r (g.below e.child)
  dir-times l k e up lt ok r =
      let ws = g.group e.child in
      let w : Entry → ℕ = λ x. times r (g.below x.child) in
      let in_cell : ℕ → ℕ = λ y. total w (entries_in (blocks.block y).body) in
      let sum : (y : ℕ) → IsOn k y → in_cell y ≡ cond (g.placed r) (same (g.above (g.at r) k) y) 0
      = λ y on. ap (λ (n : Node). total w n.entries) (sym (seen k y lt on).is) ∙ dir-sum y l r on.0 (on.1 ∙ up) ∙ ap (λ m. cond (g.placed r) (same (g.above (g.at r) m) y) 0) (sym up) in
      let all : total w (group_entries blocks e) ≡ total in_cell ws =
      ap (λ bs. total w (flat_map (λ (b : Block). entries_in b.body) bs)) (group-is k e lt ok)
      ∙ total-flat w (λ (b : Block). entries_in b.body) (map (blocks.block) ws)
      ∙ total-map (λ (b : Block). total w (entries_in b.body)) (blocks.block) ws in
      on_bool (g.placed r)
      (λ p.
      let c = still.settled r p in
      let z = still.tree.tree.shape.settled r p c in
      let s : total in_cell ws ≡ times (g.above (g.at r) k) ws = total-same (IsOn k) in_cell (λ y. same (g.above (g.at r) k) y) ws (λ y on. sum y on ∙ (rw p refl)) (on-level k e ok) in
      let low = reach-low g (noted_of g k e) (g.at r) (omega arith) in
      all ∙ s ∙ sym (ok.rows r ∙ (rw p low)))
      (λ p.
      let s : total in_cell ws ≡ total (λ (_ : ℕ). 0) ws = total-same (IsOn k) in_cell (λ _. 0) ws (λ y on. sum y on ∙ (rw p refl)) (on-level k e ok) in
      all ∙ s ∙ total-none ws ∙ sym (ok.rows r ∙ (rw p refl)))

  -- the root

  root-node : (look home).entries ≡ root_entry gate ∷ []
  root-node = ap (λ (n : Node). n.entries) (node-gate cells)

  home-up : g.level home ≡ (gate.height - 1) + 1
  home-up = let a = still.tree.level in let b = still.tree.some in omega arith

  pub root-ok : IsEntry (gate.height - 1) (root_entry gate)
  root-ok = (subst (Each (IsEntry (gate.height - 1))) root-node (still.tree.tree.dirs home (gate.height - 1) still.tree.top home-up).entries).0

  pub root-times : (r : ℕ) → times r (g.below gate.root) ≡ cond (g.placed r) 1 0
  root-times r =
      let s = dir-sum home (gate.height - 1) r still.tree.top home-up in
      let t = ap (total (λ (e : Entry). times r (g.below e.child))) root-node in
      on_bool (g.placed r)
      (λ p.
      let c = still.settled r p in
      let ok = still.tree.tree.shape in
      let si = ok.stands r p in
      let z = ok.settled r p c in
      let hh = still.tree.height in
      let hs = still.tree.some in
      let v = ok.higher (g.at r) ((gate.height - 1) + 1) si (omega arith) (omega arith) in
      let o = same_is _ _ (still.tree.only _ v.0 (let q = v.1 in omega arith)) in
      let s1 : total (λ (e : Entry). times r (g.below e.child)) (look home).entries ≡ same (g.above (g.at r) ((gate.height - 1) + 1)) home = s ∙ (rw p refl) in
      rw p (omega arith))
      (λ p.
      let s1 : total (λ (e : Entry). times r (g.below e.child)) (look home).entries ≡ 0 = s ∙ (rw p refl) in
      rw p (omega arith))

  -- rows beneath entries

  pub rows-ok : (l : ℕ) (e : Entry) → l < gate.height → IsEntry l e → (r : ℕ) → times r (numbers (rows_at blocks l e)) ≡ times r (g.below e.child)
  rows-ok zero e lt ok r = leaf-times e lt ok r
  rows-ok (suc l) e lt ok r =
      times-flat (λ x. rows_at blocks l x) r (group_entries blocks e)
      ∙ total-same (IsEntry l) (λ x. times r (numbers (rows_at blocks l x))) (λ x. times r (g.below x.child)) (group_entries blocks e) (λ x o. rows-ok l x (omega arith) o r) (entries-ok l (suc l) e (omega arith) lt ok)
      ∙ dir-times l (suc l) e (omega arith) lt ok r

  pub named-ok : (l : ℕ) (e : Entry) → l < gate.height → IsEntry l e → Each (λ r. table.row r.no ≡ r) (rows_at blocks l e)
  named-ok zero e lt ok = subst (λ bs. Each (λ r. table.row r.no ≡ r) (flat_map (λ (b : Block). rows_in b.body) bs)) (sym (group-is 0 e lt ok))
      (each-flat (λ (r : Row). table.row r.no ≡ r) (λ (b : Block). rows_in b.body) (map (blocks.block) (g.group e.child))
      (each-made (IsOn 0) (λ (b : Block). Each (λ r. table.row r.no ≡ r) (rows_in b.body)) (blocks.block) (g.group e.child) (λ y on. (block-ok 0 y lt on).rows) (on-level 0 e ok)))
  named-ok (suc l) e lt ok = each-flat (λ (r : Row). table.row r.no ≡ r) (λ x. rows_at blocks l x) (group_entries blocks e)
      (each-map (IsEntry l) (λ x. Each (λ r. table.row r.no ≡ r) (rows_at blocks l x)) (group_entries blocks e) (λ x o. named-ok l x (omega arith) o) (entries-ok l (suc l) e (omega arith) lt ok))

-- The step down by an entry of a directory, from what the call's contract says
use Rattle.std.proofs.{Common.{◌≡◌, ◌≢◌, ℕ, ◌+◌, ◌-◌, ◌<◌, ◌≤◌, ◌⊎◌, inl, inr, true, false, eqb, List, [], ◌∷◌, ◌++◌, length, map, take, drop, refl, sym, ap, ◌∙◌, subst, arith}, lemmas.Bool.{eqb-true, eqb-false}, lemmas.List.length-append}
use Rattle.std.specs.Prelude.{Some, None}
use Rattle.dim_hierarchy.specs.Rows.{IsRowOf}
use Rattle.dc_node.specs.{Block.{entries_in, is_leaf, is_full, size, with_entries, replaced}, declared.block.Block.Block, declared.block.Body.Body, declared.block.Body.TheVariants.{Rows, Entries}, declared.entry.Entry.Entry}
use Rattle.cell_stock.specs.Stock.{PurseValue}
use Rattle.link_descent.specs.{Descend.{IsGroupEntry, KeepsEntry, Passes, Halves, CutsDown}, Divide.IsHalved, declared.entered.Entered.Entered}
use Rattle.list_words.specs.Counts.{Each, times}
use Rattle.list_words.proofs.Truth.{on_bool}
use Rattle.tree_shape.specs.{Shape.{Node, Shape, Table, TreeCells, gate_node, node_of, nodes, numbers}, Steps.{AfterStep, AreSpares, GoesDown}, Trees.{BlockOk, EntryOk, IsTree, limit}, Walks.IsTail}
use Rattle.tree_shape.proofs.{Cutting.Contents.{ArePartsOf, halves, cut-parts, head-parts}, Cutting.Parts.{IsAround, around}, Cutting.Relations.Touch, Down.Onto.{touch-row, touch-same, child_in, entry_ok}, Down.Settles.{after-pass, after-half, after-cut}, Reading.Queries.apart, Whole.Assembled.{node-block, no-rows, has-entries, near-tree, block-entries, used-spares}, Whole.Tails.{IsCutOf, behind-head, behind-cut}}

some-eq : {A : Type 0} (x y : A) → Some x ≡ Some y → x ≡ y
some-eq x y h = cc

-- the parts of a halved block
pub half-parts : (old head new : Block) (n t : ℕ) → is_full old.body ≡ true → IsHalved old n t head new → ArePartsOf old.body head.body new.body
half-parts old head new n t full h = rw (h.head_is, h.new_is) (halves old.body full)

-- what is known of a cut block and of the new one
pub record AreCut (old head new : Block) (n t : ℕ) : Type 0 where
  pub parts : ArePartsOf old.body head.body new.body
  pub head_stamp : head.stamp ≡ t
  pub head_right : head.right ≡ Some n
  pub new_stamp : new.stamp ≡ old.stamp
  pub new_right : new.right ≡ old.right

pub are-cut : (table : Table) (expected : ℕ) (tail : List Block) (old head new : Block) (n t : ℕ) (behind : List Block) → is_full old.body ≡ true
    → IsCutOf table.hierarchy expected tail old n t head new behind → AreCut old head new n t
are-cut table expected tail old head new n t behind full h = elim h [
  | inl u ↦ (let w = u.1 in rw (w.head_is, w.new_is) (record {
    parts = cut-parts table.hierarchy old.body w.sets w.cut full w.are_sets w.good w.order;
    head_stamp = refl;
    head_right = refl;
    new_stamp = refl;
    new_right = refl;
  }))
  | inr u ↦ (let w = u.2 in rw (w.head_is, w.new_is) (record {
    parts = head-parts table.hierarchy old.body w.items w.cut full w.are_sets.head w.good;
    head_stamp = refl;
    head_right = refl;
    new_stamp = refl;
    new_right = refl;
  }))
]

directory-room : (body : Body) → is_leaf body ≡ false → size body ≤ limit body → is_full body ≡ false → length (entries_in body) ≤ 15
directory-room (Rows rows) h few room = cc
directory-room (Entries entries) h few room = let ne = eqb-false _ _ room in omega arith

module _ (table : Table) (g : Shape) (r : ℕ) (before now : TreeCells) (purse purse_now : PurseValue) (entered : Entered)
    (tree : IsTree table before g) (d : GoesDown table g r before now purse purse_now entered) where
  abbrev p : ℕ
  p = d.parent

  abbrev c : ℕ
  c = d.entry.child

  abbrev body : Body
  body = (before.block p).body

  p_gate : p ≢ before.gate_cell
  p_gate q = tree.entered r d.placed (d.at ∙ q)

  p_in : g.inside p ≡ true
  p_in = subst (λ y. g.inside y ≡ true) d.at (tree.tree.shape.stands r d.placed)

  p_ok : BlockOk table g p (before.block p)
  p_ok = tree.blocks p p_in p_gate

  p_dir : is_leaf body ≡ false
  p_dir = has-entries body d.place d.entry d.entry_at

  w : IsAround (entries_in body) d.place d.entry
  w = around (entries_in body) d.place d.entry d.entry_at

  p_up : g.level p ≡ (g.level p - 1) + 1
  p_up = let ne = eqb-false (g.level p) 0 (sym p_ok.kind ∙ p_dir) in omega arith

  p_below : g.level p < before.gate.height
  p_below =
      let b = tree.tree.shape.below p p_in in
      let h = tree.height in
      on_bool (eqb (g.level p) before.gate.height)
      (λ q. absurd (p_gate (tree.only p p_in (eqb-true _ _ q))))
      (λ q. let ne = eqb-false _ _ q in omega arith)

  look_p : nodes before p ≡ node_of (before.block p)
  look_p = node-block before p p_gate

  look3_p : nodes now p ≡ node_of (now.block p)
  look3_p = node-block now p (λ q. p_gate (q ∙ d.gate_cell))

  is : (nodes before p).entries ≡ w.front ++ d.entry ∷ w.back
  is = ap (λ (x : Node). x.entries) look_p ∙ w.is

  -- the entry's group: its head, and the blocks behind it

  abbrev e_ok : EntryOk g (nodes before) table (g.level p - 1) d.entry
  e_ok = entry_ok g (nodes before) table tree.tree p (g.level p - 1) p_in p_up d.entry w.front w.back is

  abbrev tail : List ℕ
  tail = e_ok.group.walks.0

  group_is : g.group c ≡ c ∷ tail
  group_is = e_ok.group.walks.1

  tail_walk : IsTail (nodes before) d.entry.stamp c tail
  tail_walk = e_ok.group.walks.2

  low_gate : (y : ℕ) → g.level y ≡ g.level p - 1 → y ≢ before.gate_cell
  low_gate y e q = let a : g.level y ≡ g.level before.gate_cell = ap g.level q in let b = tree.level in let l = p_below in let u = p_up in absurd (omega arith)

  tail_look : (y : ℕ) → 1 ≤ times y tail → nodes before y ≡ node_of (before.block y)
  tail_look y h = node-block before y (low_gate y (behind-head g (nodes before) table (g.level p - 1) c tail d.entry e_ok refl group_is y h).level)

  look_c : nodes before c ≡ node_of (before.block c)
  look_c = node-block before c (low_gate c (child_in g (nodes before) table tree.tree p (g.level p - 1) p_in p_up d.entry w.front w.back is).1)

  numbered : IsRowOf table.hierarchy (table.row r)
  numbered = (tree.numbered r d.placed).1

  entry_is : d.step.entry ≡ d.entry
  entry_is = some-eq _ _ (sym d.step.entry_at ∙ d.entry_at)

  gate_height : now.gate.height ≡ before.gate.height
  gate_height = d.gate.height

  gate_same : p ≢ before.gate_cell → gate_node now.gate ≡ gate_node before.gate
  gate_same h = ap (λ (x : Entry). record { stamp = 0; right = None; rows = []; entries = x ∷ [] }) d.gate.root

  alone_p : (q : ℕ) → q ≢ r → g.placed q ≡ true → g.carried q ≡ true → g.at q ≢ p
  alone_p q ne pq cq aq = ne (tree.alone q r pq cq d.placed d.carried (aq ∙ sym d.at))

  length_p : length (entries_in body) ≡ length w.front + (1 + length w.back)
  length_p = let a = ap length w.is in let b = length-append w.front (d.entry ∷ w.back) in omega arith

  some_room : length (entries_in body) ≤ 15
  some_room = directory-room body p_dir p_ok.few (p_ok.room r d.placed d.carried d.at)

  -- the parent with other entries in the place of one
  module _ (others : List Entry) (some : 1 ≤ length others) (few : length others ≤ 2) (parent_is : now.block p ≡ with_entries (before.block p) (replaced (entries_in body) d.place others)) where
    new-entries : replaced (entries_in body) d.place others ≡ (w.front ++ others) ++ w.back
    new-entries = rw (w.taken, w.dropped) refl

    is3 : now.block p ≡ with_entries (before.block p) ((w.front ++ others) ++ w.back)
    is3 = parent_is ∙ ap (with_entries (before.block p)) new-entries

    entries3 : (nodes now p).entries ≡ (w.front ++ others) ++ w.back
    entries3 = ap (λ (x : Node). x.entries) (look3_p ∙ ap node_of is3)

    top_rows : (nodes now p).rows ≡ (nodes before p).rows
    top_rows = ap (λ (x : Node). x.rows) (look3_p ∙ ap node_of is3) ∙ sym (ap (λ (x : Node). x.rows) look_p ∙ ap numbers (no-rows body p_dir))

    top_stamp : (nodes now p).stamp ≡ (nodes before p).stamp
    top_stamp = ap (λ (x : Node). x.stamp) (look3_p ∙ ap node_of is3) ∙ sym (ap (λ (x : Node). x.stamp) look_p)

    top_right : (nodes now p).right ≡ (nodes before p).right
    top_right = ap (λ (x : Node). x.right) (look3_p ∙ ap node_of is3) ∙ sym (ap (λ (x : Node). x.right) look_p)

    long : length ((w.front ++ others) ++ w.back) ≡ length w.front + length others + length w.back
    long = omega (arith, length-append (w.front ++ others) w.back, length-append w.front others)

    parent_ok : p ≢ before.gate_cell → (g3 : Shape) → g3.level p ≡ g.level p → ((q : ℕ) → g3.placed q ≡ true → g3.carried q ≡ true → g3.at q ≢ p) → BlockOk table g3 p (now.block p)
    parent_ok h g3 lv none = block-entries table g g3 p (before.block p) (now.block p) ((w.front ++ others) ++ w.back) (let u = p_up in omega arith) is3 (let l = long in omega arith) (let l = long in let o = length_p in let s = some_room in omega arith) lv none

  passes : (e2 : Entry) → KeepsEntry d.place e2 (before.block p) (now.block p) → Passes table.hierarchy (table.row r) d.entry e2 (before.block c) (now.block c) purse purse_now entered
      → AfterStep table g r entered.at ((g.level p - 1) + 1) before now purse.spares purse_now.spares
  passes e2 k s =
      let some : 1 ≤ 1 = omega arith in
      let few : 1 ≤ 2 = omega arith in
      let other : (y : ℕ) → y ≢ p → now.block y ≡ before.block y = λ y yp. on_bool (eqb y c)
      (λ q. let z = eqb-true _ _ q in rw z s.head_is)
      (λ q. d.other y yp (eqb-false _ _ q) (rw s.fresh tt)) in
      subst (λ x. AfterStep table g r x ((g.level p - 1) + 1) before now purse.spares purse_now.spares) (sym s.at)
      (after-pass table before now g r p (g.level p - 1) before.gate.height purse.spares (near-tree table before g r tree) tree.tree d.placed d.carried d.at numbered p_up (let b = p_below in omega arith) d.entry w.front w.back is
      (top_rows (e2 ∷ []) some few k.parent_is) (top_stamp (e2 ∷ []) some few k.parent_is) (top_right (e2 ∷ []) some few k.parent_is)
      d.gate_cell gate_height gate_same tree.blocks (parent_ok (e2 ∷ []) some few k.parent_is) alone_p d.idle d.spares
      purse_now.spares e2 (ap (λ (x : PurseValue). x.spares) s.purse_is) s.entry_is (entries3 (e2 ∷ []) some few k.parent_is) s.room other)

  halved : (e2 : Entry) → KeepsEntry d.place e2 (before.block p) (now.block p) → Halves table.hierarchy (table.row r) (map before.block d.tail) d.entry e2 (before.block c) (now.block c) purse purse_now entered
      → AfterStep table g r entered.at ((g.level p - 1) + 1) before now purse.spares purse_now.spares
  halved e2 k s =
      let some : 1 ≤ 1 = omega arith in
      let few : 1 ≤ 2 = omega arith in
      let fill : now.block s.spare.cell ≡ s.new = (subst (λ xs. Each (λ f. now.block f.cell ≡ f.block) xs) s.fresh d.filled).0 in
      let parts = half-parts (before.block c) (now.block c) s.new s.spare.cell s.spare.stamp s.full s.halved in
      subst (λ x. AfterStep table g r x ((g.level p - 1) + 1) before now purse.spares purse_now.spares) (sym s.at)
      (after-half table before now g r p (g.level p - 1) before.gate.height purse.spares (near-tree table before g r tree) tree.tree d.placed d.carried d.at numbered p_up (let b = p_below in omega arith) d.entry w.front w.back is
      (top_rows (e2 ∷ []) some few k.parent_is) (top_stamp (e2 ∷ []) some few k.parent_is) (top_right (e2 ∷ []) some few k.parent_is)
      d.gate_cell gate_height gate_same tree.blocks (parent_ok (e2 ∷ []) some few k.parent_is) alone_p d.idle d.spares
      purse_now.spares s.spare s.new s.purse_is fill (λ y yp yc yn. d.other y yp yc (rw s.fresh (yn, tt))) parts
      (ap (λ (x : Block). x.stamp) s.halved.head_is) (ap (λ (x : Block). x.right) s.halved.head_is) (ap (λ (x : Block). x.stamp) s.halved.new_is) (ap (λ (x : Block). x.right) s.halved.new_is)
      e2 s.entry_is (entries3 (e2 ∷ []) some few k.parent_is))

  cut : CutsDown table.hierarchy (table.row r) d.place (map before.block d.tail) d.entry (before.block p) (now.block p) (before.block c) (now.block c) purse purse_now entered
      → AfterStep table g r entered.at ((g.level p - 1) + 1) before now purse.spares purse_now.spares
  cut s =
      let u = s.cuts in
      let others : List Entry = s.left_now ∷ s.right_now ∷ [] in
      let some : 1 ≤ 2 = omega arith in
      let few : 2 ≤ 2 = omega arith in
      let fill : now.block s.spare.cell ≡ s.new = (subst (λ xs. Each (λ f. now.block f.cell ≡ f.block) xs) s.fresh d.filled).0 in
      let w2 = are-cut table d.entry.stamp (map before.block d.tail) (before.block c) (now.block c) s.new s.spare.cell s.spare.stamp u.behind u.full u.cut in
      let behind_is : u.behind ≡ map before.block tail = behind-cut table.hierarchy (nodes before) before.block d.entry.stamp c d.tail tail (before.block c) (now.block c) s.new s.spare.cell s.spare.stamp u.behind
      (ap (λ (x : Node). x.stamp) look_c) (λ y h. ap (λ (x : Node). x.stamp) (tail_look y h)) tail_walk (d.behind u.full ∙ ap (λ (ws : List ℕ). take 2 (drop 1 ws)) group_is) u.cut in
      let right_is = subst (λ (bs : List Block). IsGroupEntry table.hierarchy s.spare.cell d.entry.stamp s.new bs s.right) behind_is u.right_is in
      let go : (x : ℕ) → entered.at ≡ x → Touch table r x s.left s.left_now → Touch table r x s.right s.right_now → (x ≡ c) ⊎ (x ≡ s.spare.cell) → AfterStep table g r entered.at ((g.level p - 1) + 1) before now purse.spares purse_now.spares =
      λ x at ta tb which.
      subst (λ x. AfterStep table g r x ((g.level p - 1) + 1) before now purse.spares purse_now.spares) (sym at)
      (after-cut table before now g r p (g.level p - 1) before.gate.height purse.spares (near-tree table before g r tree) tree.tree d.placed d.carried d.at numbered p_up (let b = p_below in omega arith) d.entry w.front w.back is
      (top_rows others some few s.parent_is) (top_stamp others some few s.parent_is) (top_right others some few s.parent_is)
      d.gate_cell gate_height gate_same tree.blocks (parent_ok others some few s.parent_is) alone_p d.idle d.spares
      purse_now.spares s.spare s.new u.purse_is fill (λ y yp yc yn. d.other y yp yc (rw s.fresh (yn, tt))) w2.parts w2.head_stamp w2.head_right w2.new_stamp w2.new_right
      x tail s.left s.right s.left_now s.right_now group_is u.left_is right_is ta tb which (entries3 others some few s.parent_is)) in
      let lc : s.left.child ≡ c = u.left_is.child in
      let rc : s.right.child ≡ s.spare.cell = u.right_is.child in
      let mine = (used-spares g (nodes before) purse_now.spares (s.spare ∷ []) (subst (AreSpares g (nodes before)) u.purse_is d.spares)).0 in
      let c_at : g.inside c ≡ true = (child_in g (nodes before) table tree.tree p (g.level p - 1) p_in p_up d.entry w.front w.back is).0 in
      let cn : c ≢ s.spare.cell = apart g c s.spare.cell c_at mine.cell in
      elim s.shared.shared [
        | inl h ↦ go c (s.at ∙ ap (λ (x : Entry). x.child) h.3 ∙ lc) (touch-row table r c s.left s.left_now lc h.1)
            (subst (λ y. Touch table r c s.right y) (sym h.2) (touch-same table r c s.right (λ q. cn (sym (sym rc ∙ q))))) (inl refl)
        | inr h ↦ go s.spare.cell (s.at ∙ ap (λ (x : Entry). x.child) h.3 ∙ rc)
            (subst (λ y. Touch table r s.spare.cell s.left y) (sym h.2) (touch-same table r s.spare.cell s.left (λ q. cn (sym lc ∙ q))))
            (touch-row table r s.spare.cell s.right s.right_now rc h.1) (inr refl)
      ]

  down : AfterStep table g r entered.at ((g.level p - 1) + 1) before now purse.spares purse_now.spares
  down =
      elim d.step.step [
        | inl s ↦ passes s.0 s.1 (subst (λ (x : Entry). Passes table.hierarchy (table.row r) x s.0 (before.block c) (now.block c) purse purse_now entered) entry_is s.2)
        | inr t ↦ elim t [
          | inl s ↦ halved s.0 s.1 (subst (λ (x : Entry). Halves table.hierarchy (table.row r) (map before.block d.tail) x s.0 (before.block c) (now.block c) purse purse_now entered) entry_is s.2)
          | inr s ↦ cut (subst (λ (x : Entry). CutsDown table.hierarchy (table.row r) d.place (map before.block d.tail) x (before.block p) (now.block p) (before.block c) (now.block c) purse purse_now entered) entry_is s)
        ]
      ]

  pub goes-down : AfterStep table g r entered.at (g.level (g.at r)) before now purse.spares purse_now.spares
  goes-down = subst (λ l. AfterStep table g r entered.at l before now purse.spares purse_now.spares) (sym p_up ∙ ap g.level (sym d.at)) down

-- An administrator reads a tree block by block: each block is read, or reached as before
use Rattle.std.proofs.{Common.{◌≡◌, ◌≢◌, ℕ, ◌+◌, ◌-◌, ◌≤◌, true, false, cond, eqb, leb, List, [], ◌∷◌, ◌++◌, map, refl, sym, ap, ◌∙◌, subst, arith}, lemmas.Bool.{eqb-true, eqb-false, ne_eqb, eq-eqb, leb-true, leb-false}}
use Rattle.dc_node.specs.{Block.{rows_in, entries_in}, declared.block.Block.Block, declared.entry.Entry.Entry, declared.todo.Item.Item}
use Rattle.link_descent.specs.shard_store.specs.Gate.{root_entry}
use Rattle.link_descent.specs.Visit.{noted_right}
use Rattle.list_words.specs.Counts.{same, times}
use Rattle.list_words.proofs.{Times.{same_is, same_not, times-append}, Truth.on_bool}
use Rattle.tree_shape.specs.{Collecting.{AfterCollecting, AfterRead, IsCollecting, IsReadable, Reads, entry_items, root_item}, Queries.items_of, Shape.{Node, Shape, ShapeOk, Table, TreeCells, node_of, nodes, numbers}, Steps.LeavesTree, Trees.{BlockOk, DirOk, IsTree}, Walks.{AreNoted, IsNoted, IsTail, Noted, noted_of, pending, reach}}
use Rattle.tree_shape.proofs.{Cutting.Relations.{Note, left_over, notes}, Down.Puts.leaf-entries, Reading.Queries.{reach-low, reach-high}, Reading.Readings.{IsLast, last-noted, noted-left, noted-right, left-are, items-append}, Reading.Visits.{spans, pending-append, all_noted-append, left-low, left-high, left_are, none_noted, notes_are, leaf-split}, Whole.Assembled.{node-block, no-rows}, Whole.Others.{all_noted-kept, same-node}, Whole.Totals.{goes-on, root-noted, reach-root, gate-sum}}

abbrev all_notes : Shape → ℕ → List Entry → List Noted
all_notes g l es = notes g l (λ e. Note) es

notes-all : (g : Shape) (l : ℕ) (es : List Entry) (y : ℕ) → g.level y ≤ l → pending g (all_notes g l es) y ≡ spans g (g.above y l) es
notes-all g l [] y le = refl
notes-all g l (e ∷ es) y le = omega (arith, notes-all g l es y le, reach-low g (noted_of g l e) y le)

items-all : (g : Shape) (l : ℕ) (es : List Entry) → items_of (all_notes g l es) ≡ map (λ e. record { cell = e.child; stamp = e.stamp }) es
items-all g l [] = refl
items-all g l (e ∷ es) = ap (λ (xs : List Item). record { cell = e.child; stamp = e.stamp } ∷ xs) (items-all g l es)

-- a directory with its entries' groups all noted
collect-dir : (g : Shape) (look : ℕ → Node) (table : Table) (b l : ℕ) (p : Noted) (zs : List ℕ) (ps : List Noted)
    → ShapeOk g → DirOk g look table b l → g.inside b ≡ true → g.level b ≡ l + 1 → p.walk ≡ b ∷ zs → p.level ≡ l + 1
    → (y : ℕ) → g.inside y ≡ true
    → pending g (all_notes g l (look b).entries ++ (left_over p.stamp p.level zs ++ ps)) y + same y b ≡ pending g (p ∷ ps) y
collect-dir g look table b l p zs ps ok dir bi bl at_b pl y yi =
    let es = (look b).entries in
    let a1 = pending-append g (all_notes g l es) (left_over p.stamp p.level zs ++ ps) y in
    let a2 = pending-append g (left_over p.stamp p.level zs) ps y in
    let top = ok.below b bi in
    let d : times (g.above y p.level) p.walk ≡ same (g.above y p.level) b + times (g.above y p.level) zs = rw at_b refl in
    let at : same (g.above y p.level) b ≡ same (g.above y (l + 1)) b = ap (λ (w : ℕ). same (g.above y w) b) pl in
    on_bool (leb (g.level y) l)
    (λ c. let le = leb-true _ _ c in
    let n = notes-all g l es y le in
    let h = ok.higher y l yi le (omega arith) in
    let s : spans g (g.above y l) es ≡ same (g.above y (l + 1)) b = dir.each (g.above y l) h.0 h.1 ∙ ap (λ (w : ℕ). same w b) (ok.coherent y l (l + 1) yi le (omega arith) (omega arith)) in
    let r = reach-low g p y (omega arith) in
    let z = left-low g p.stamp p.level zs y (omega arith) in
    let ne : y ≢ b = (λ w. let k : g.level y ≡ l + 1 = ap g.level w ∙ bl in absurd (omega arith)) in
    let o = same_not y b ne in
    omega arith)
    (λ c. let gt = leb-false _ _ c in
    let n = none_noted g look table (λ r. true) (λ e. Note) b l es y gt in
    on_bool (leb (g.level y) (l + 1))
    (λ c2. let le2 = leb-true _ _ c2 in
    let lev : g.level y ≡ l + 1 = omega arith in
    let self : g.above y (l + 1) ≡ y = ap (g.above y) (sym lev) ∙ ok.itself y yi in
    let s : same (g.above y (l + 1)) b ≡ same y b = ap (λ (w : ℕ). same w b) self in
    let r = reach-low g p y (omega arith) in
    let z = left-low g p.stamp p.level zs y (omega arith) in
    omega arith)
    (λ c2. let gt2 = leb-false _ _ c2 in
    let r = reach-high g p y (omega arith) in
    let z = left-high g p.stamp p.level zs y (omega arith) in
    let ne : y ≢ b = (λ w. let k : g.level y ≡ l + 1 = ap g.level w ∙ bl in absurd (omega arith)) in
    let o = same_not y b ne in
    omega arith))

pub collect-begins : (table : Table) (cells : TreeCells) (g : Shape) → IsTree table cells g → IsCollecting cells g (root_item cells.gate ∷ []) [] []
collect-begins table cells g tree = record {
  noted = root ∷ [];
  are = refl;
  walks = (root-noted table cells g tree, tt);
  blocks = λ y yi. on_bool (eqb y cells.gate_cell)
      (λ q. let lv = ap g.level (eqb-true _ _ q) in
      let top = tree.level in
      let s = tree.some in
      let h = reach-high g root y (omega arith) in
      rw q (omega arith))
      (λ q. let h = reach-root table cells g tree y yi (eqb-false _ _ q) in rw q (omega arith));
  inside = λ y h. absurd (omega arith);
  rows = λ r. on_bool (g.placed r) (λ p. rw p refl) (λ p. rw p refl);
}
  where
    root : Noted
    root = noted_of g (cells.gate.height - 1) (root_entry cells.gate)

module _ (table : Table) (cells : TreeCells) (g : Shape) (items : List Item) (item : Item) (read collected : List ℕ)
    (tree : IsTree table cells g) (c : IsCollecting cells g (items ++ item ∷ []) read collected) where
  abbrev look : ℕ → Node
  look = nodes cells

  abbrev b : ℕ
  b = item.cell

  abbrev block : Block
  block = cells.block item.cell

  w : IsLast c.noted items item
  w = last-noted c.noted items item c.are

  abbrev p : Noted
  p = w.last

  abbrev ps : List Noted
  ps = w.others

  all-noted : AreNoted g look (ps ++ p ∷ [])
  all-noted = subst (AreNoted g look) w.is c.walks

  p-noted : IsNoted g look p
  p-noted = (noted-right g look ps (p ∷ []) all-noted).0

  was : (y : ℕ) → pending g (p ∷ ps) y ≡ pending g c.noted y
  was y = let e : pending g (ps ++ p ∷ []) y ≡ pending g c.noted y = ap (λ xs. pending g xs y) (sym w.is) in omega (arith, e, pending-append g ps (p ∷ []) y)

  at_b : p.walk ≡ b ∷ p-noted.walks.0
  at_b = p-noted.walks.1 ∙ ap (λ c. c ∷ p-noted.walks.0) w.cell

  tail : IsTail look p.stamp b p-noted.walks.0
  tail = subst (λ c. IsTail look p.stamp c p-noted.walks.0) w.cell p-noted.walks.2

  b_in : (g.inside b ≡ true) × (g.level b ≡ p.level)
  b_in = p-noted.cells b (rw at_b (let o = same_is b b refl in omega arith))

  reached : 1 ≤ reach g p b
  reached =
      let e : g.above b p.level ≡ b = ap (g.above b) (sym b_in.1) ∙ tree.tree.shape.itself b b_in.0 in
      let lv = b_in.1 in
      let r = reach-low g p b (omega arith) in
      let o = same_is b b refl in
      let d : times b p.walk ≡ same b b + times b p-noted.walks.0 = rw at_b refl in
      let s : times (g.above b p.level) p.walk ≡ times b p.walk = ap (λ (x : ℕ). times x p.walk) e in
      omega arith

  not_gate : b ≢ cells.gate_cell
  not_gate e =
      let h = c.blocks b b_in.0 in
      let k : times b read + pending g c.noted b ≡ 0 = rw (eq-eqb b cells.gate_cell e) at h in
      let k2 = was b in
      let k3 = reached in
      absurd (omega arith)

  is : look b ≡ node_of block
  is = node-block cells b not_gate

  pub readable : IsReadable cells g item
  readable = record {
    inside = b_in.0;
    block = not_gate;
    right = goes-on cells item p-noted.walks.0 is (subst (λ s. IsTail look s b p-noted.walks.0) w.stamp tail);
  }

  module _ (idle : (r : ℕ) → g.placed r ≡ true → g.carried r ≡ true → g.at r ≢ b) where
    ok : BlockOk table g b block
    ok = tree.blocks b b_in.0 not_gate

    -- the block has the rows that are at it
    own : (r : ℕ) → times r (numbers (rows_in block.body)) ≡ cond (g.placed r) (same (g.at r) b) 0
    own r = on_bool (eqb (g.level b) 0)
        (λ z. let t = sym (ap (λ (x : Node). times r x.rows) is) ∙ tree.tree.leaves b b_in.0 (eqb-true _ _ z) r in
        t ∙ on_bool (g.placed r)
        (λ pr. on_bool (g.carried r)
        (λ ca. let n = same_not (g.at r) b (idle r pr ca) in rw (pr, ca) (sym n))
        (λ ca. rw (pr, ca) refl))
        (λ pr. rw pr refl))
        (λ z. let none : times r (numbers (rows_in block.body)) ≡ 0 = ap (λ xs. times r (numbers xs)) (no-rows block.body (ok.kind ∙ z)) in
        none ∙ on_bool (g.placed r)
        (λ pr. let n = same_not (g.at r) b (λ e. on_bool (g.carried r)
        (λ ca. idle r pr ca e)
        (λ ca. eqb-false _ _ z (sym (ap g.level e) ∙ tree.tree.shape.settled r pr ca))) in rw pr (sym n))
        (λ pr. rw pr refl))

    -- where these are noted of its entries
    build : (ns : List Noted) → items_of ns ≡ entry_items block.body → AreNoted g look ns
        → ((y : ℕ) → g.inside y ≡ true → pending g (ns ++ (left_over p.stamp p.level p-noted.walks.0 ++ ps)) y + same y b ≡ pending g (p ∷ ps) y)
        → AfterRead cells g items item read collected c.noted
    build ns its walks exact = record {
      collecting = record {
        noted = (ps ++ ns) ++ lo;
        are = items-append (ps ++ ns) lo ∙ ap (λ xs. xs ++ items_of lo) (items-append ps ns ∙ ap (λ xs. xs ++ items_of ns) w.others_are ∙ ap (λ xs. items ++ xs) its) ∙ ap (λ xs. (items ++ entry_items block.body) ++ xs) lo_is;
        walks = all_noted-append g look (ps ++ ns) lo (all_noted-append g look ps ns (noted-left g look ps (p ∷ []) all-noted) walks) (left_are g look p b p-noted.walks.0 p-noted at_b);
        blocks = λ y yi. omega (arith, times-append y read (b ∷ []), exactly y yi, c.blocks y yi);
        inside = λ y h. on_bool (eqb y b)
            (λ q. rw (eqb-true _ _ q) b_in.0)
            (λ q. let n = same_not y b (eqb-false _ _ q) in let t = times-append y read (b ∷ []) in c.inside y (omega arith));
        rows = λ r.
            let t = times-append r collected (numbers (rows_in block.body)) in
            let o = own r in
            let k = c.rows r in
            on_bool (g.placed r)
            (λ pr. let t2 = times-append (g.at r) read (b ∷ []) in
            let o2 : times r (numbers (rows_in block.body)) ≡ same (g.at r) b = o ∙ (rw pr refl) in
            let k2 : times r collected ≡ times (g.at r) read = k ∙ (rw pr refl) in
            rw pr (omega arith))
            (λ pr. let o2 : times r (numbers (rows_in block.body)) ≡ 0 = o ∙ (rw pr refl) in
            let k2 : times r collected ≡ 0 = k ∙ (rw pr refl) in
            rw pr (omega arith));
      };
      exactly = exactly;
    }
      where
        lo : List Noted
        lo = left_over p.stamp p.level p-noted.walks.0

        lo_is : items_of (left_over p.stamp p.level p-noted.walks.0) ≡ noted_right block item.stamp
        lo_is = left-are look p.stamp p.level b p-noted.walks.0 block is tail ∙ ap (noted_right block) w.stamp

        exactly : (y : ℕ) → g.inside y ≡ true → pending g ((ps ++ ns) ++ left_over p.stamp p.level p-noted.walks.0) y + same y b ≡ pending g c.noted y
        exactly y yi = omega (
          arith,
          was y,
          exact y yi,
          pending-append g (ps ++ ns) (left_over p.stamp p.level p-noted.walks.0) y,
          pending-append g ps ns y,
          pending-append g ns (left_over p.stamp p.level p-noted.walks.0 ++ ps) y,
          pending-append g (left_over p.stamp p.level p-noted.walks.0) ps y,
        )

    read-leaf : p.level ≡ 0 → AfterRead cells g items item read collected c.noted
    read-leaf z =
        let bl : g.level b ≡ 0 = b_in.1 ∙ z in
        let none = leaf-entries block.body (ok.kind ∙ eq-eqb (g.level b) 0 bl) in
        build [] (sym (ap (λ (es : List Entry). map (λ e. record { cell = e.child; stamp = e.stamp }) es) none)) tt
        (λ y yi. omega (arith, leaf-split g b p p-noted.walks.0 ps tree.tree.shape bl at_b z y yi))

    read-directory : p.level ≢ 0 → AfterRead cells g items item read collected c.noted
    read-directory z =
        let l : ℕ = p.level - 1 in
        let pl : p.level ≡ l + 1 = omega arith in
        let bl : g.level b ≡ l + 1 = b_in.1 ∙ pl in
        let dir = tree.tree.dirs b l b_in.0 bl in
        let es : (look b).entries ≡ entries_in block.body = ap (λ (x : Node). x.entries) is in
        build (all_notes g l (look b).entries)
        (items-all g l (look b).entries ∙ ap (λ (es : List Entry). map (λ e. record { cell = e.child; stamp = e.stamp }) es) es)
        (notes_are g look table (λ r. true) (λ e. Note) b l (look b).entries dir.entries)
        (collect-dir g look table b l p p-noted.walks.0 ps tree.tree.shape dir b_in.0 bl at_b pl)

    pub read-one : AfterRead cells g items item read collected c.noted
    read-one = on_bool (eqb p.level 0) (λ z. read-leaf (eqb-true _ _ z)) (λ z. read-directory (eqb-false _ _ z))

pub after-read : (table : Table) (cells : TreeCells) (g : Shape) (items : List Item) (item : Item) (read collected : List ℕ) → IsTree table cells g
    → (d : Reads cells g items item read collected) → AfterRead cells g items item read collected d.collecting.noted
after-read table cells g items item read collected tree d = read-one table cells g items item read collected tree d.collecting d.idle

pub collect-other : (table : Table) (g : Shape) (before now : TreeCells) (items : List Item) (read collected : List ℕ) → IsTree table before g
    → LeavesTree g before now → IsCollecting before g items read collected → IsCollecting now g items read collected
collect-other table g before now items read collected tree d c = record {
  noted = c.noted;
  are = c.are;
  walks = all_noted-kept g (nodes before) (nodes now) table (same-node table g before now tree d) c.noted c.walks;
  blocks = λ y yi. rw d.gate_cell (c.blocks y yi);
  inside = c.inside;
  rows = c.rows;
}

pub collect-ends : (table : Table) (cells : TreeCells) (g : Shape) (read collected : List ℕ) → IsTree table cells g
    → IsCollecting cells g [] read collected → AfterCollecting table cells g read collected
collect-ends table cells g read collected tree c = record {
  blocks = λ y. on_bool (g.inside y)
      (λ q. rw q (left y q))
      (λ q. on_bool (leb 1 (times y read))
      (λ k. let bad : true ≡ false = sym (c.inside y (leb-true _ _ k)) ∙ q in cc)
      (λ k. let z = leb-false _ _ k in rw q (omega arith)));
  rows = rows;
  summary = gate-sum table cells g tree collected rows;
}
  where
    nothing : (ps : List Noted) → items_of ps ≡ [] → ps ≡ []
    nothing [] e = refl
    nothing (p ∷ ps) e = cc

    left : (y : ℕ) → g.inside y ≡ true → times y read ≡ cond (eqb y cells.gate_cell) 0 1
    left y yi =
        let e : pending g c.noted y ≡ 0 = ap (λ ps. pending g ps y) (nothing c.noted c.are) in
        omega (arith, e, c.blocks y yi)

    rows : (r : ℕ) → times r collected ≡ cond (g.placed r) 1 0
    rows r = c.rows r ∙ on_bool (g.placed r)
        (λ p. rw p (left (g.at r) (tree.tree.shape.stands r p) ∙ (rw (ne_eqb (g.at r) cells.gate_cell (tree.entered r p)) refl)))
        (λ p. rw p refl)

-- The blocks that a query has still to visit: what is noted tells the walks, and each visit lessens how often blocks are reached.
use Rattle.std.proofs.{Common.{◌≡◌, ◌≢◌, ℕ, zero, suc, ◌+◌, ◌<◌, ◌≤◌, true, cond, leb, List, [], ◌∷◌, length, map, Some, refl, sym, ap, ◌∙◌, subst, arith}, lemmas.Bool.{eq-eqb, ne_eqb}}
use Rattle.dc_node.specs.{declared.block.Block.Block, declared.todo.Item.Item}
use Rattle.list_words.specs.Counts.{Each, same, times}
use Rattle.list_words.proofs.{Times.same_is, Truth.on_bool}
use Rattle.volap_cell.specs.tree_shape.specs.{Queries.items_of, Shape.{Table, TreeCells, Node, node_of, nodes, Shape}, Trees.IsTree, Walks.{Noted, IsNoted, AreNoted, IsTail, reach, pending}}
use Rattle.volap_cell.specs.tree_shape.proofs.{Reading.Noted.{noted-cell, reach-walk}, Whole.Assembled.node-block}
use Rattle.volap_cell.specs.{Falls.{chain, noted_at, blocks_left}, Sums.sum_below}
use Rattle.volap_cell.proofs.{Counting.{length-few, sum-ones}, Sums.{sum-no-more, sum-less}}

-- the cells along right links up to a stamp are those of the walk, where there are no more than are looked at
chain-walk : (blocks : ℕ → Block) (look : ℕ → Node) (n y stamp : ℕ) (zs : List ℕ) → ((x : ℕ) → 1 ≤ times x (y ∷ zs) → look x ≡ node_of (blocks x)) → length zs ≤ n → IsTail look stamp y zs → chain blocks n y stamp ≡ y ∷ zs
chain-walk blocks look zero y stamp [] alike few tail = refl
chain-walk blocks look zero y stamp (z ∷ zs) alike few tail = absurd (omega arith)
chain-walk blocks look (suc n) y stamp [] alike few tail =
    let o = same_is y y refl in
    let is = alike y (omega arith) in
    let ends : (blocks y).stamp ≡ stamp = sym (ap (λ (x : Node). x.stamp) is) ∙ tail in
    rw (eq-eqb _ _ ends) refl
chain-walk blocks look (suc n) y stamp (z ∷ zs) alike few tail =
    let o = same_is y y refl in
    let is = alike y (omega arith) in
    let goes_on : (blocks y).stamp ≢ stamp = (λ e. tail.0 (ap (λ (x : Node). x.stamp) is ∙ e)) in
    let right : (blocks y).right ≡ Some z = sym (ap (λ (x : Node). x.right) is) ∙ tail.1 in
    let rest = chain-walk blocks look n z stamp zs (λ x on. alike x (omega arith)) (omega arith) tail.2 in
    rw (ne_eqb _ _ goes_on) (rw right (ap (λ (ys : List ℕ). y ∷ ys) rest))

module _ (table : Table) (cells : TreeCells) (g : Shape) (n : ℕ) (tree : IsTree table cells g) (known : (y : ℕ) → g.inside y ≡ true → y ≢ cells.gate_cell → y < n) where
  -- no block of a walk is the gate where its first one isn't
  off-gate : (p : Noted) → IsNoted g (nodes cells) p → p.cell ≢ cells.gate_cell → (y : ℕ) → 1 ≤ times y p.walk → y ≢ cells.gate_cell
  off-gate p d ne y on e =
      let (inside, level) = noted-cell g (nodes cells) p d in
      let there = (d.cells y on).1 in
      let top : g.level y ≡ g.level cells.gate_cell = ap g.level e in
      let height = tree.level in
      ne (tree.only p.cell inside (omega arith))

  -- what is noted is told by the cells and the stamps alone

  noted-is : (p : Noted) → IsNoted g (nodes cells) p → p.cell ≢ cells.gate_cell → ((y : ℕ) → g.inside y ≡ true → reach g p y ≤ 1) → noted_at cells.block n g (record { cell = p.cell; stamp = p.stamp }) ≡ p
  noted-is p d ne once =
      let ok = tree.tree.shape in
      let few : length p.walk ≤ n = length-few p.walk n
      (λ r. on_bool (leb 1 (times r p.walk))
      (λ q. let on : 1 ≤ times r p.walk = grind arith in
      let reached_is = reach-walk g (nodes cells) p r ok d on in let most = once r (d.cells r on).0 in omega arith)
      (λ q. grind arith))
      (λ r on. known r (d.cells r on).0 (off-gate p d ne r on)) in
      let walk : p.walk ≡ p.cell ∷ d.walks.0 = d.walks.1 in
      let long : length p.walk ≡ length (p.cell ∷ d.walks.0) = ap length walk in
      let found = chain-walk cells.block (nodes cells) n p.cell p.stamp d.walks.0
      (λ x on. node-block cells x (off-gate p d ne x (subst (λ (ys : List ℕ). 1 ≤ times x ys) (sym walk) on))) (omega arith) d.walks.2 in
      let level = (noted-cell g (nodes cells) p d).1 in
      let chained : chain cells.block n p.cell p.stamp ≡ p.walk = found ∙ sym walk in
      λ k. record { cell = p.cell; stamp = p.stamp; level = level k; walk = chained k }

  noted-are : (ps : List Noted) → AreNoted g (nodes cells) ps → Each (λ i. i.cell ≢ cells.gate_cell) (items_of ps) → ((y : ℕ) → g.inside y ≡ true → pending g ps y ≤ 1) → map (noted_at cells.block n g) (items_of ps) ≡ ps
  noted-are [] d ne once = refl
  noted-are (p ∷ ps) d ne once =
      let head = noted-is p d.0 ne.0 (λ y inside. let most = once y inside in omega arith) in
      let rest = noted-are ps d.1 ne.1 (λ y inside. let most = once y inside in omega arith) in
      λ k. head k ∷ rest k

  -- how often a block of the tree is reached, and nothing where it is none
  abbrev reached : List Noted → ℕ → ℕ
  reached ps y = cond (g.inside y) (pending g ps y) 0

  pub left-is : (ps : List Noted) (items : List Item) → items_of ps ≡ items → AreNoted g (nodes cells) ps → Each (λ i. i.cell ≢ cells.gate_cell) items → ((y : ℕ) → g.inside y ≡ true → pending g ps y ≤ 1) → blocks_left cells.block n g items ≡ sum_below n (reached ps)
  left-is ps items are d ne once =
      let one = noted-are ps d (subst (Each (λ (i : Item). i.cell ≢ cells.gate_cell)) (sym are) ne) once in
      ap (blocks_left cells.block n g) (sym are) ∙ ap (λ (qs : List Noted). sum_below n (λ y. cond (g.inside y) (pending g qs y) 0)) one

  -- there are no more than cells
  pub left-few : (ps : List Noted) → ((y : ℕ) → g.inside y ≡ true → pending g ps y ≤ 1) → sum_below n (reached ps) ≤ n
  left-few ps once =
      let most = sum-no-more n (λ y. 1) (reached ps) (λ y lt. on_bool (g.inside y) (λ q. let k = once y q in rw q k) (λ q. rw q (omega arith))) in
      let ones = sum-ones n in omega arith

  -- and fewer once one is visited
  pub left-falls : (ps qs : List Noted) (cell : ℕ) → g.inside cell ≡ true → cell < n → ((y : ℕ) → g.inside y ≡ true → pending g qs y + same y cell ≤ pending g ps y) → sum_below n (reached qs) < sum_below n (reached ps)
  left-falls ps qs cell inside lt fewer = sum-less n (reached ps) (reached qs) cell lt
      (let o = same_is cell cell refl in let k = fewer cell inside in rw inside (omega arith))
      (λ y ne. on_bool (g.inside y) (λ q. let k = fewer y q in rw q (omega arith)) (λ q. rw q (omega arith)))

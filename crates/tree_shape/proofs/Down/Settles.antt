-- A row comes down from a directory or from the gate onto the head of a group: what holds after it, in each of the three cases
use Rattle.std.proofs.{Common.{◌≡◌, ◌≢◌, ℕ, ◌+◌, ◌<◌, ◌≤◌, ◌⊎◌, inl, inr, Bool, true, false, eqb, List, [], ◌∷◌, ◌++◌, map, refl, sym, ap, ◌∙◌, subst, arith}, lemmas.Bool.{eqb-true, eqb-false, ne_eqb, eq-eqb}, lemmas.List.append-nil}
use Rattle.dim_hierarchy.specs.Rows.{IsRowOf}
use Rattle.dc_node.specs.{Block.{is_leaf, is_full}, Entry.IsWithRow, declared.block.Block.Block, declared.entry.Entry.Entry}
use Rattle.cell_stock.specs.declared.purse.Spare.{Spare}
use Rattle.link_descent.specs.Descend.{IsEntryOf, IsGroupEntry}
use Rattle.list_words.specs.Counts.{Each, times}
use Rattle.list_words.proofs.{Each.each-right, Truth.on_bool}
use Rattle.tree_shape.specs.{Shape.{Node, Shape, Table, TreeCells, gate_node, node_of, nodes}, Steps.{AfterStep, AreApart, AreSpares, IsCarriedAt, IsIdle, IsSpare}, Trees.{BlockOk, TreeOk}}
use Rattle.tree_shape.proofs.{Cutting.Contents.ArePartsOf, Cutting.Relations.{Grew, NoneHas, Touch, all_grown}, Down.Lands.{c_in, c_top, passed, joins, splits}, Down.Onto.entry_ok, Down.Passes.{tree-passed, query-passed, grew-passed, stamps-passed, pass-shape}, Reading.Queries.apart, Whole.Assembled.{node-block, node-gate, NearTree, assemble, items-grown, none-expects, own-spares, used-spares, block-kept, block-part}, Whole.Tails.{IsInTail, behind-head}}
use Rattle.std.specs.Prelude.{Some}
use Rattle.tree_shape.proofs.Down.Downs as J
use Rattle.tree_shape.proofs.Cutting.Splits as S

-- what comes of the shape's growth for the rows
pub carried-at : (g g3 : Shape) (fresh : ℕ → Bool) (j k r x : ℕ) → g.placed r ≡ true → g.carried r ≡ true → Grew g g3 fresh j k r x → IsCarriedAt g g3 r x
carried-at g g3 fresh j k r x p c w = record {
  placed = w.placed r ∙ p;
  carried = w.carried r ∙ c;
  at = w.at_r;
  others_placed = λ q ne. w.placed q;
  others_carried = λ q ne. w.carried q;
  others_at = w.at;
}

module _ (table : Table) (before now : TreeCells) (g : Shape) (r p k top_level : ℕ) (purse : List Spare)
    (near : NearTree table before.gate_cell top_level g r) (tree : TreeOk g (nodes before) table)
    (placed : g.placed r ≡ true) (carried : g.carried r ≡ true) (at : g.at r ≡ p) (numbered : IsRowOf table.hierarchy (table.row r)) (pl : g.level p ≡ k + 1) (low : k < top_level)
    (e : Entry) (ahead behind : List Entry) (is : (nodes before p).entries ≡ ahead ++ e ∷ behind)
    (top_rows : (nodes now p).rows ≡ (nodes before p).rows) (top_stamp : (nodes now p).stamp ≡ (nodes before p).stamp) (top_right : (nodes now p).right ≡ (nodes before p).right)
    (gate_cell : now.gate_cell ≡ before.gate_cell) (gate_height : now.gate.height ≡ top_level)
    (gate_same : p ≢ before.gate_cell → gate_node now.gate ≡ gate_node before.gate)
    (old_blocks : (b : ℕ) → g.inside b ≡ true → b ≢ before.gate_cell → BlockOk table g b (before.block b))
    (parent_ok : p ≢ before.gate_cell → (g3 : Shape) → g3.level p ≡ g.level p → ((q : ℕ) → g3.placed q ≡ true → g3.carried q ≡ true → g3.at q ≢ p) → BlockOk table g3 p (now.block p))
    (alone_p : (q : ℕ) → q ≢ r → g.placed q ≡ true → g.carried q ≡ true → g.at q ≢ p)
    (idle : IsIdle g e.child) (spares : AreSpares g (nodes before) purse) where
  abbrev look : ℕ → Node
  look = nodes before

  abbrev look3 : ℕ → Node
  look3 = nodes now

  abbrev c : ℕ
  c = e.child

  c_at : (g.inside c ≡ true) × (g.level c ≡ k)
  c_at = c_in g look look3 table tree r p k placed carried at numbered pl e ahead behind is top_rows top_stamp top_right

  c_p : c ≢ p
  c_p = c_top g look look3 table tree r p k placed carried at numbered pl e ahead behind is top_rows top_stamp top_right

  c_gate : c ≢ before.gate_cell
  c_gate q = let a : g.level c ≡ g.level before.gate_cell = ap g.level q in let b = c_at.1 in let l = near.level in absurd (omega arith)

  -- a cell whose block is as before, but for the parent's
  look-same : (y : ℕ) → y ≢ p → (y ≢ before.gate_cell → now.block y ≡ before.block y) → look3 y ≡ look y
  look-same y yp h = on_bool (eqb y before.gate_cell)
      (λ q. let z = eqb-true _ _ q in
      let a : look3 y ≡ gate_node now.gate = ap look3 (z ∙ sym gate_cell) ∙ node-gate now in
      let b : look y ≡ gate_node before.gate = ap look z ∙ node-gate before in
      a ∙ gate_same (λ w. yp (z ∙ sym w)) ∙ sym b)
      (λ q. let ne = eqb-false _ _ q in
      node-block now y (λ w. ne (w ∙ gate_cell)) ∙ ap node_of (h ne) ∙ sym (node-block before y ne))

  p_in : g.inside p ≡ true
  p_in = subst (λ y. g.inside y ≡ true) at (near.stands r placed)

  -- the blocks behind the head

  on-tail : (tail : List ℕ) → g.group c ≡ c ∷ tail → (y : ℕ) → 1 ≤ times y tail → IsInTail g k c tail y
  on-tail tail group = behind-head g look table k c tail e (entry_ok g look table tree p k p_in pl e ahead behind is) refl group

  tail-gate : (tail : List ℕ) → g.group c ≡ c ∷ tail → (y : ℕ) → 1 ≤ times y tail → y ≢ before.gate_cell
  tail-gate tail group y h q = let a : g.level y ≡ g.level before.gate_cell = ap g.level q in let b = (on-tail tail group y h).level in let l = near.level in absurd (omega arith)

  tail-look : (tail : List ℕ) → g.group c ≡ c ∷ tail → (y : ℕ) → 1 ≤ times y tail → look y ≡ node_of (before.block y)
  tail-look tail group y h = node-block before y (tail-gate tail group y h)

  tail-ok : (tail : List ℕ) → g.group c ≡ c ∷ tail → (y : ℕ) → 1 ≤ times y tail → BlockOk table g y (before.block y)
  tail-ok tail group y h = old_blocks y (on-tail tail group y h).inside (tail-gate tail group y h)

  look_c : look c ≡ node_of (before.block c)
  look_c = node-block before c c_gate

  look3_c : look3 c ≡ node_of (now.block c)
  look3_c = node-block now c (λ w. c_gate (w ∙ gate_cell))

  valid : (q : ℕ) → g.placed q ≡ true → IsRowOf table.hierarchy (table.row q)
  valid q h = (near.numbered q h).1

  -- where the row q is after the step
  now_at : (g3 : Shape) (fresh : ℕ → Bool) (x q b : ℕ) → Grew g g3 fresh k k r x → g3.placed q ≡ true → g3.carried q ≡ true → g3.at q ≡ b → ((q ≡ r) × (x ≡ b)) ⊎ ((q ≢ r) × (g.placed q ≡ true) × (g.carried q ≡ true) × (g.at q ≡ b))
  now_at g3 fresh x q b w pq cq aq = on_bool (eqb q r)
      (λ z. let qr = eqb-true _ _ z in inl (qr, sym w.at_r ∙ ap g3.at (sym qr) ∙ aq))
      (λ z. let ne = eqb-false _ _ z in
      let p1 = sym (w.placed q) ∙ pq in
      let c1 = sym (w.carried q) ∙ cq in
      inr (ne, p1, c1, sym (w.at q ne p1 c1) ∙ aq))

  none-at_p : (g3 : Shape) (fresh : ℕ → Bool) (x : ℕ) → x ≢ p → Grew g g3 fresh k k r x → (q : ℕ) → g3.placed q ≡ true → g3.carried q ≡ true → g3.at q ≢ p
  none-at_p g3 fresh x xp w q pq cq aq = elim (now_at g3 fresh x q p w pq cq aq) [
    | inl u ↦ xp u.1
    | inr u ↦ alone_p q u.0 u.1 u.2 u.3
  ]

  -- a block that the step didn't touch
  untouched : (g3 : Shape) (fresh : ℕ → Bool) (x b : ℕ) → Grew g g3 fresh k k r x → g.inside b ≡ true → b ≢ before.gate_cell → fresh b ≡ false → now.block b ≡ before.block b → (x ≡ b → is_full (before.block b).body ≡ false) → BlockOk table g3 b (now.block b)
  untouched g3 fresh x b w bi bg fb same_block room =
      let ok = old_blocks b bi bg in
      block-kept table g g3 b (before.block b) (now.block b) ok same_block (w.level b fb) (λ q pq cq aq. elim (now_at g3 fresh x q b w pq cq aq) [
        | inl u ↦ room u.1
        | inr u ↦ ok.room q u.1 u.2 u.3
      ])

  -- the head has room
  pub after-pass : (purse_now : List Spare) (e2 : Entry) → purse_now ≡ purse → IsWithRow table.hierarchy (table.row r) e e2 → (look3 p).entries ≡ (ahead ++ e2 ∷ []) ++ behind
      → is_full (before.block c).body ≡ false → ((y : ℕ) → y ≢ p → now.block y ≡ before.block y) → AfterStep table g r c (k + 1) before now purse purse_now
  after-pass purse_now e2 pn w i room other =
      let d = passed g look look3 table tree r p k placed carried at numbered pl e ahead behind is top_rows top_stamp top_right e2 w i (λ y yp. look-same y yp (λ h. other y yp)) in
      let g3 : Shape = pass-shape g look look3 table k c r tree d in
      let grew = grew-passed g look look3 table k c r tree d in
      let keep : (s : Spare) → Each (AreApart s) [] → IsSpare g look s → IsSpare g3 look3 s = λ s u h. record { cell = h.cell; unexpected = stamps-passed g look look3 table k c r tree d s.stamp h.unexpected } in
      record {
        shape = g3;
        tree = assemble table now before.gate_cell top_level g g3 (λ y. false) k k r c near (tree-passed g look look3 table k c r tree d) grew low low gate_cell gate_height (λ q ne pq cq. idle q pq cq)
            (λ b bi bg. on_bool (eqb b p)
            (λ q. let bp = eqb-true _ _ q in
            subst (λ y. BlockOk table g3 y (now.block y)) (sym bp) (parent_ok (λ z. bg (bp ∙ z)) g3 refl (none-at_p g3 (λ y. false) c c_p grew)))
            (λ q. untouched g3 (λ y. false) c b grew bi bg refl (other b (eqb-false _ _ q)) (λ z. subst (λ y. is_full (before.block y).body ≡ false) z room)));
        row = carried-at g g3 (λ y. false) k k r c placed carried grew;
        level = ap (λ l. l + 1) grew.x_level;
        levels = λ y i yg. grew.level y refl;
        used = [];
        purse_is = sym pn ∙ sym (append-nil purse_now);
        inside = λ y u. refl;
        filled = tt;
        spares = keep;
        own = own-spares g g3 look look3 [] purse_now keep (subst (AreSpares g look) (sym pn ∙ sym (append-nil purse_now)) spares);
        queries = λ must fits items counted u new h. record {
          noted = h.noted;
          are = h.are;
          ok = query-passed g look look3 table k c r tree d must fits h.noted counted h.ok;
        };
      }

  module _ (purse_now : List Spare) (spare : Spare) (new : Block) (purse_is : purse ≡ purse_now ++ spare ∷ []) (filled : now.block spare.cell ≡ new)
      (other : (y : ℕ) → y ≢ p → y ≢ c → y ≢ spare.cell → now.block y ≡ before.block y)
      (parts : ArePartsOf (before.block c).body (now.block c).body new.body)
      (head_stamp : (now.block c).stamp ≡ spare.stamp) (head_right : (now.block c).right ≡ Some spare.cell) (new_stamp : new.stamp ≡ (before.block c).stamp) (new_right : new.right ≡ (before.block c).right) where
    abbrev n : ℕ
    n = spare.cell

    abbrev t : ℕ
    t = spare.stamp

    mine : IsSpare g look spare
    mine = (used-spares g look purse_now (spare ∷ []) (subst (AreSpares g look) purse_is spares)).0

    n_gate : n ≢ before.gate_cell
    n_gate q = apart g before.gate_cell n near.top mine.cell (sym q)

    look3_n : look3 n ≡ node_of new
    look3_n = node-block now n (λ w. n_gate (w ∙ gate_cell)) ∙ ap node_of filled

    c_ok : BlockOk table g c (before.block c)
    c_ok = old_blocks c c_at.0 c_gate

    other_look : (y : ℕ) → y ≢ c → y ≢ n → y ≢ p → look3 y ≡ look y
    other_look y yc yn yp = look-same y yp (λ h. other y yp yc yn)

    -- the blocks, where the row is at x, which is the head or the new block
    blocks : (g3 : Shape) (x : ℕ) → Grew g g3 (λ y. eqb y n) k k r x → (x ≡ c) ⊎ (x ≡ n) → (b : ℕ) → g3.inside b ≡ true → b ≢ before.gate_cell → BlockOk table g3 b (now.block b)
    blocks g3 x w which b bi bg = on_bool (eqb b n)
        (λ q. let bn = eqb-true _ _ q in
        subst (BlockOk table g3 b) (sym (ap now.block bn ∙ filled))
        (block-part table g g3 c b (before.block c) new c_ok parts.right_kind parts.right_some parts.right_few parts.right_rows parts.right_room ((w.new b q).2 ∙ sym c_at.1)))
        (λ q. let i1 = sym (w.inside b q) ∙ bi in on_bool (eqb b c)
        (λ q2. let bc = eqb-true _ _ q2 in
        subst (λ y. BlockOk table g3 b (now.block y)) (sym bc)
        (block-part table g g3 c b (before.block c) (now.block c) c_ok parts.left_kind parts.left_some parts.left_few parts.left_rows parts.left_room (w.level b q ∙ ap g.level bc)))
        (λ q2. let bc = eqb-false _ _ q2 in on_bool (eqb b p)
        (λ q3. let bp = eqb-true _ _ q3 in
        let xp : x ≢ p = (λ z. elim which [ inl u ↦ c_p (sym u ∙ z) | inr u ↦ eqb-false b n q (bp ∙ sym z ∙ u) ]) in
        subst (λ y. BlockOk table g3 y (now.block y)) (sym bp) (parent_ok (λ z. bg (bp ∙ z)) g3 (subst (λ y. g3.level y ≡ g.level y) bp (w.level b q)) (none-at_p g3 (λ y. eqb y n) x xp w)))
        (λ q3. untouched g3 (λ y. eqb y n) x b w i1 bg q (other b (eqb-false _ _ q3) bc (eqb-false _ _ q)) (λ z. absurd (elim which [ inl u ↦ bc (sym z ∙ u) | inr u ↦ eqb-false b n q (sym z ∙ u) ])))))

    idle-x : (x : ℕ) → (x ≡ c) ⊎ (x ≡ n) → (q : ℕ) → q ≢ r → g.placed q ≡ true → g.carried q ≡ true → g.at q ≢ x
    idle-x x which q ne pq cq aq = elim which [
      | inl u ↦ idle q pq cq (aq ∙ u)
      | inr u ↦ apart g (g.at q) n (near.stands q pq) mine.cell (aq ∙ u)
    ]

    inside-off : (g3 : Shape) (x : ℕ) → Grew g g3 (λ y. eqb y n) k k r x → (y : ℕ) → Each (λ (s : Spare). y ≢ s.cell) (spare ∷ []) → g3.inside y ≡ g.inside y
    inside-off g3 x w y u = w.inside y (ne_eqb y n u.0)

    keeps : (g3 : Shape) (x : ℕ) → Grew g g3 (λ y. eqb y n) k k r x → ((u : ℕ) → u ≢ t → NoneHas g look u → NoneHas g3 look3 u) → (s : Spare) → Each (AreApart s) (spare ∷ []) → IsSpare g look s → IsSpare g3 look3 s
    keeps g3 x w stamps s u h = record { cell = inside-off g3 x w s.cell (u.0.0, tt) ∙ h.cell; unexpected = stamps s.stamp u.0.1 h.unexpected }

    -- it was halved
    pub after-half : (e2 : Entry) → IsWithRow table.hierarchy (table.row r) e e2 → (look3 p).entries ≡ (ahead ++ e2 ∷ []) ++ behind → AfterStep table g r c (k + 1) before now purse purse_now
    after-half e2 w i =
        let d = joins g look look3 table tree r p k placed carried at numbered pl e ahead behind is top_rows top_stamp top_right (before.block c) (now.block c) new n t look_c look3_c look3_n mine.cell mine.unexpected idle other_look parts head_stamp head_right new_stamp new_right e2 w i in
        let g3 : Shape = J.g3 g look look3 table k c n t r tree d in
        let grew = J.grew-down g look look3 table k c n t r tree d in
        let keep = keeps g3 c grew (J.stamps-down g look look3 table k c n t r tree d) in
        record {
          shape = g3;
          tree = assemble table now before.gate_cell top_level g g3 (λ y. eqb y n) k k r c near (J.tree-down g look look3 table k c n t r tree d) grew low low gate_cell gate_height (idle-x c (inl refl)) (blocks g3 c grew (inl refl));
          row = carried-at g g3 (λ y. eqb y n) k k r c placed carried grew;
          level = ap (λ l. l + 1) grew.x_level;
          levels = λ y i yg. grew.level y (ne_eqb y n (apart g y n i mine.cell));
          used = spare ∷ [];
          purse_is = purse_is;
          inside = inside-off g3 c grew;
          filled = ((grew.new n (eq-eqb n n refl)).1, tt);
          spares = keep;
          own = own-spares g g3 look look3 (spare ∷ []) purse_now keep (subst (AreSpares g look) purse_is spares);
          queries = λ must fits items counted u fresh h. record {
            noted = all_grown c n h.noted;
            are = items-grown c n h.noted ∙ h.are;
            ok = J.query-down g look look3 table k c n t r tree d must fits h.noted counted (none-expects t h.noted items h.are u.0) h.ok;
          };
        }

    -- it was cut
    pub after-cut : (x : ℕ) (tail : List ℕ) (a b a2 b2 : Entry) → g.group c ≡ c ∷ tail → IsEntryOf table.hierarchy c (now.block c) a → IsGroupEntry table.hierarchy n e.stamp new (map before.block tail) b
        → Touch table r x a a2 → Touch table r x b b2 → (x ≡ c) ⊎ (x ≡ n) → (look3 p).entries ≡ (ahead ++ a2 ∷ b2 ∷ []) ++ behind → AfterStep table g r x (k + 1) before now purse purse_now
    after-cut x tail a b a2 b2 group ea eb ta tb which i =
        let kind : is_leaf (before.block c).body ≡ eqb k 0 = c_ok.kind ∙ ap (λ l. eqb l 0) c_at.1 in
        let d = splits g look look3 table tree r p k placed carried at numbered pl e ahead behind is top_rows top_stamp top_right (before.block c) (now.block c) new n t look_c look3_c look3_n mine.cell mine.unexpected idle other_look parts head_stamp head_right new_stamp new_right kind c_ok.rows valid tail group before.block (tail-look tail group) (tail-ok tail group) near.heads x a b a2 b2 ea eb ta tb which i in
        let g3 : Shape = S.g3 g look look3 table k c n t r x a b e tree d in
        let grew = S.grew-split g look look3 table k c n t r x a b e tree d in
        let of_e : (u : ℕ) → NoneHas g look u → u ≢ e.stamp = λ u h z.
        let es : Each (λ v. v.stamp ≢ u) (ahead ++ e ∷ behind) = subst (Each (λ (v : Entry). v.stamp ≢ u)) is (h p k p_in pl) in
        (each-right (λ (v : Entry). v.stamp ≢ u) ahead (e ∷ behind) es).0 (sym z) in
        let keep = keeps g3 x grew (λ u ut h. S.stamps-split g look look3 table k c n t r x a b e tree d u ut (of_e u h) h) in
        record {
          shape = g3;
          tree = assemble table now before.gate_cell top_level g g3 (λ y. eqb y n) k k r x near (S.tree-split g look look3 table k c n t r x a b e tree d) grew low low gate_cell gate_height (idle-x x which) (blocks g3 x grew which);
          row = carried-at g g3 (λ y. eqb y n) k k r x placed carried grew;
          level = ap (λ l. l + 1) grew.x_level;
          levels = λ y i yg. grew.level y (ne_eqb y n (apart g y n i mine.cell));
          used = spare ∷ [];
          purse_is = purse_is;
          inside = inside-off g3 x grew;
          filled = ((grew.new n (eq-eqb n n refl)).1, tt);
          spares = keep;
          own = own-spares g g3 look look3 (spare ∷ []) purse_now keep (subst (AreSpares g look) purse_is spares);
          queries = λ must fits items counted u fresh h. record {
            noted = all_grown c n h.noted;
            are = items-grown c n h.noted ∙ h.are;
            ok = S.query-split g look look3 table k c n t r x a b e tree d must fits h.noted counted (none-expects t h.noted items h.are u.0) h.ok;
          };
        }

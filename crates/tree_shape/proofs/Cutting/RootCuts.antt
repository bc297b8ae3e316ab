-- The root's head is cut under a new root, at which the row that comes in is carried
use Rattle.std.proofs.{Common.{◌≡◌, ◌≢◌, ℕ, ◌+◌, ◌-◌, ◌≤◌, true, false, eqb, List, [], ◌∷◌, ◌++◌, map, take, drop, refl, sym, ap, ◌∙◌, subst, arith, append_assoc}, lemmas.Bool.{eqb-true, eqb-false, ne_eqb, eq-eqb}}
use Rattle.std.specs.Prelude.{None}
use Rattle.dc_node.specs.{Block.is_full, Entry.IsWithRow, declared.block.Block.Block, declared.block.Body.TheVariants.Entries, declared.entry.Entry.Entry}
use Rattle.cell_stock.specs.{Stock.PurseValue, declared.purse.Spare.Spare}
use Rattle.link_descent.specs.shard_store.specs.{Gate.root_entry, declared.gate.Gate.Gate}
use Rattle.link_descent.specs.{Descend.{CutsRoot, IsGroupEntry}, declared.entered.Entered.Entered, declared.entered.Fresh.Fresh}
use Rattle.list_words.specs.Counts.{Each, times}
use Rattle.list_words.proofs.{Times.same_is, Truth.on_bool}
use Rattle.tree_shape.specs.{Queries.NoneWaits, Shape.{Node, Shape, Table, TreeCells, gate_node, node_of, nodes}, Steps.{AfterStep, AreApart, AreSpares, GoesIn, IsIdle, IsSpare}, Trees.{BlockOk, EntryOk, IsTree}}
use Rattle.tree_shape.proofs.{Cutting.Contents.ArePartsOf, Cutting.Cuts.{cut-shape, tree-cut, query-cut, grew-cut, stamps-cut}, Cutting.NewRoots.{raised_cells, raised_shape, raised_tree, raised_query, raised_spare}, Cutting.Relations.{CutUnder, Grew, all_grown, parted}, Down.Descends.{AreCut, are-cut}, Down.Enters.enters-pass, Down.Lands.{c_in, cuts-under}, Down.Onto.entry_ok, Reading.Queries.apart, Whole.Assembled.{node-block, node-gate, near-tree, assemble, items-grown, none-expects, own-spares, used-spares, block-kept, block-part, root-at}, Whole.Tails.{IsInTail, behind-head, behind-cut, tail-one}}

module _ (table : Table) (g : Shape) (r : ℕ) (before now : TreeCells) (purse purse_now : PurseValue) (entered : Entered)
    (tree : IsTree table before g) (d : GoesIn table g r before now purse purse_now entered)
    (s : CutsRoot table.hierarchy (table.row r) (map before.block d.tail) before.gate d.gate_now (before.block before.gate.root) (now.block before.gate.root) purse purse_now entered) where
  abbrev gate : ℕ
  gate = before.gate_cell

  abbrev h : ℕ
  h = before.gate.height

  abbrev c : ℕ
  c = before.gate.root

  abbrev n : ℕ
  n = s.spare.cell

  abbrev t : ℕ
  t = s.spare.stamp

  abbrev m : ℕ
  m = s.top.cell

  purse_is : purse.spares ≡ purse_now.spares ++ (s.top ∷ s.spare ∷ [])
  purse_is = s.cuts.purse_is ∙ ap (λ (xs : List Spare). xs ++ s.spare ∷ []) s.purse_is ∙ append_assoc purse_now.spares (s.top ∷ []) (s.spare ∷ [])

  two : AreSpares g (nodes before) (s.top ∷ s.spare ∷ [])
  two = used-spares g (nodes before) purse_now.spares (s.top ∷ s.spare ∷ []) (subst (AreSpares g (nodes before)) purse_is d.spares)

  m_fresh : g.inside m ≡ false
  m_fresh = two.0.cell

  n_m : n ≢ m
  n_m e = two.1.0.0 (sym e)

  -- with the new root
  abbrev cells1 : TreeCells
  cells1 = raised_cells table g before tree m s.top.stamp m_fresh

  abbrev g1 : Shape
  g1 = raised_shape table g before tree m s.top.stamp m_fresh

  tree1 : IsTree table cells1 g1
  tree1 = raised_tree table g before tree m s.top.stamp m_fresh

  -- and with the row
  abbrev cells2 : TreeCells
  cells2 = record { gate_cell = before.gate_cell; gate = now.gate; block = cells1.block }

  abbrev e2 : Entry
  e2 = record { child = m; stamp = s.top.stamp; agg = s.entry_now.agg; set = s.entry_now.set }

  with_row : IsWithRow table.hierarchy (table.row r) (root_entry cells1.gate) e2
  with_row = record { child = refl; stamp = refl; agg = s.entry_is.agg; grown = s.entry_is.grown; valid = s.entry_is.valid }

  leads : root_entry now.gate ≡ e2
  leads = d.gate.root ∙ ap root_entry s.gate_is

  height2 : now.gate.height ≡ h + 1
  height2 = d.gate.height ∙ ap (λ (x : Gate). x.height) s.gate_is

  block-m : cells1.block m ≡ record { stamp = s.top.stamp; right = None; body = Entries (record { items = root_entry before.gate ∷ [] }) }
  block-m = rw (eq-eqb m m refl) refl

  block-off : (y : ℕ) → y ≢ m → cells1.block y ≡ before.block y
  block-off y q = rw (ne_eqb y m q) refl

  idle1 : IsIdle g1 m
  idle1 q p ca = apart g (g.at q) m (tree.tree.shape.stands q p) m_fresh

  came_in : AfterStep table g1 r m ((cells1.gate.height - 1) + 1) cells1 cells2 [] []
  came_in = enters-pass table g1 r cells1 cells2 [] [] tree1 d.new d.numbered d.valid refl height2 e2 with_row leads idle1 tt refl (subst (λ (b : Block). is_full b.body ≡ false) (sym block-m) refl) (λ y yg. refl)

  abbrev g2 : Shape
  g2 = came_in.shape

  tree2 : IsTree table cells2 g2
  tree2 = came_in.tree

  none-used : came_in.used ≡ []
  none-used = sym came_in.purse_is

  each-none : (P : Spare → Type 0) → Each P came_in.used
  each-none P = subst (Each P) (sym none-used) tt

  inside2 : (y : ℕ) → g2.inside y ≡ g1.inside y
  inside2 y = came_in.inside y (each-none (λ u. y ≢ u.cell))

  spare2 : (x : Spare) → x.cell ≢ m → x.stamp ≢ s.top.stamp → IsSpare g (nodes before) x → IsSpare g2 (nodes cells2) x
  spare2 x xm xs u = came_in.spares x (each-none (AreApart x)) (raised_spare table g before tree m s.top.stamp m_fresh x xm xs u)

  mine : IsSpare g2 (nodes cells2) s.spare
  mine = spare2 s.spare n_m (λ e. two.1.0.1 (sym e)) two.2.0

  root_is : now.gate.root ≡ m
  root_is = ap (λ (x : Entry). x.child) leads

  m_at : (g2.inside m ≡ true) × (g2.level m ≡ now.gate.height - 1)
  m_at = subst (λ y. (g2.inside y ≡ true) × (g2.level y ≡ now.gate.height - 1)) root_is (root-at table cells2 g2 tree2)

  m_level : g2.level m ≡ (h - 1) + 1
  m_level = let a = m_at.1 in let b = height2 in let u = tree.some in omega arith

  m_gate : m ≢ gate
  m_gate e = apart g gate m tree.top m_fresh (sym e)

  look2_m : nodes cells2 m ≡ node_of (record { stamp = s.top.stamp; right = None; body = Entries (record { items = root_entry before.gate ∷ [] }) })
  look2_m = node-block cells2 m m_gate ∙ ap node_of block-m

  is : (nodes cells2 m).entries ≡ [] ++ root_entry before.gate ∷ []
  is = ap (λ (x : Node). x.entries) look2_m

  -- what the step left in the cells
  fills : Each (λ (f : Fresh). now.block f.cell ≡ f.block) (record { cell = n; block = s.new } ∷ record { cell = m; block = record { stamp = s.top.stamp; right = None; body = Entries (record { items = s.left ∷ s.right ∷ [] }) } } ∷ [])
  fills = subst (λ xs. Each (λ f. now.block f.cell ≡ f.block) xs) s.fresh d.filled

  same_block : (y : ℕ) → y ≢ c → y ≢ n → y ≢ m → now.block y ≡ cells2.block y
  same_block y yc yn ym = d.other y yc (rw s.fresh (yn, (ym, tt))) ∙ sym (block-off y ym)

  now-block : (y : ℕ) → y ≢ gate → nodes now y ≡ node_of (now.block y)
  now-block y h = node-block now y (λ e. h (e ∙ d.gate_cell))

  look3_m : nodes now m ≡ node_of (record { stamp = s.top.stamp; right = None; body = Entries (record { items = s.left ∷ s.right ∷ [] }) })
  look3_m = now-block m m_gate ∙ ap node_of fills.1.0

  top_rows : (nodes now m).rows ≡ (nodes cells2 m).rows
  top_rows = ap (λ (x : Node). x.rows) look3_m ∙ sym (ap (λ (x : Node). x.rows) look2_m)

  top_stamp : (nodes now m).stamp ≡ (nodes cells2 m).stamp
  top_stamp = ap (λ (x : Node). x.stamp) look3_m ∙ sym (ap (λ (x : Node). x.stamp) look2_m)

  top_right : (nodes now m).right ≡ (nodes cells2 m).right
  top_right = ap (λ (x : Node). x.right) look3_m ∙ sym (ap (λ (x : Node). x.right) look2_m)

  c_at : (g2.inside c ≡ true) × (g2.level c ≡ h - 1)
  c_at = c_in g2 (nodes cells2) (nodes now) table tree2.tree r m (h - 1) came_in.row.placed came_in.row.carried came_in.row.at d.valid m_level (root_entry before.gate) [] [] is top_rows top_stamp top_right

  c_gate : c ≢ gate
  c_gate e = let a : g2.level c ≡ g2.level gate = ap g2.level e in let b = c_at.1 in let u = tree2.level in let v = height2 in absurd (omega arith)

  c_m : c ≢ m
  c_m e = let a : g2.level c ≡ g2.level m = ap g2.level e in let b = c_at.1 in let u = m_level in absurd (omega arith)

  n_gate : n ≢ gate
  n_gate e = apart g2 gate n tree2.top mine.cell (sym e)

  other : (y : ℕ) → y ≢ c → y ≢ n → y ≢ m → nodes now y ≡ nodes cells2 y
  other y yc yn ym = on_bool (eqb y gate)
      (λ q. let e = eqb-true _ _ q in
      let a : nodes now y ≡ gate_node now.gate = ap (nodes now) (e ∙ sym d.gate_cell) ∙ node-gate now in
      let b : nodes cells2 y ≡ gate_node now.gate = ap (nodes cells2) e ∙ node-gate cells2 in
      a ∙ sym b)
      (λ q. let yg = eqb-false _ _ q in now-block y yg ∙ ap node_of (same_block y yc yn ym) ∙ sym (node-block cells2 y yg))

  idle2 : IsIdle g2 c
  idle2 q p ca at_c = on_bool (eqb q r)
      (λ z. c_m (sym at_c ∙ ap g2.at (eqb-true _ _ z) ∙ came_in.row.at))
      (λ z. let ne = eqb-false _ _ z in
      let p1 = sym (came_in.row.others_placed q ne) ∙ p in
      let ca1 = sym (came_in.row.others_carried q ne) ∙ ca in
      d.idle q p1 ca1 (sym (came_in.row.others_at q ne p1 ca1) ∙ at_c))

  divided : AreCut (before.block c) (now.block c) s.new n t
  divided = are-cut table before.gate.stamp (map before.block d.tail) (before.block c) (now.block c) s.new n t s.cuts.behind s.cuts.full s.cuts.cut

  parts : ArePartsOf (before.block c).body (now.block c).body s.new.body
  parts = divided.parts

  c_ok : BlockOk table g2 c (before.block c)
  c_ok = subst (BlockOk table g2 c) (block-off c c_m) (tree2.blocks c c_at.0 c_gate)

  entries3 : (nodes now m).entries ≡ parted c s.left s.right (nodes cells2 m).entries
  entries3 = ap (λ (x : Node). x.entries) look3_m ∙ sym (ap (parted c s.left s.right) is ∙ (rw (eq-eqb c c refl) refl))

  -- The blocks behind the root's head are the same in the tree before the step and in the one with the new root.

  gate_up : g.level gate ≡ (h - 1) + 1
  gate_up = let a = tree.level in let b = tree.some in omega arith

  abbrev was : EntryOk g (nodes before) table (h - 1) (root_entry before.gate)
  was = (subst (Each (EntryOk g (nodes before) table (h - 1))) (ap (λ (x : Node). x.entries) (node-gate before)) (tree.tree.dirs gate (h - 1) tree.top gate_up).entries).0

  abbrev old_tail : List ℕ
  old_tail = was.group.walks.0

  old-behind : (y : ℕ) → 1 ≤ times y old_tail → IsInTail g (h - 1) c old_tail y
  old-behind = behind-head g (nodes before) table (h - 1) c old_tail (root_entry before.gate) was refl was.group.walks.1

  -- a block of the tree is the same in both
  same-look : (y : ℕ) → g.inside y ≡ true → g.level y ≡ h - 1 → (nodes before y ≡ node_of (before.block y)) × (nodes cells2 y ≡ node_of (before.block y))
  same-look y i lv =
      let yg : y ≢ gate = (λ e. let a = ap g.level e in let b = tree.level in let u = tree.some in absurd (omega arith)) in
      (node-block before y yg, node-block cells2 y yg ∙ ap node_of (block-off y (apart g y m i m_fresh)))

  group2 : g2.group c ≡ c ∷ old_tail
  group2 =
      let w = (entry_ok g2 (nodes cells2) table tree2.tree m (h - 1) m_at.0 m_level (root_entry before.gate) [] [] is).group.walks in
      let at_c = was.group.cells c (rw was.group.walks.1 (let o = same_is c c refl in omega arith)) in
      let a = same-look c at_c.0 at_c.1 in
      let e = a.1 ∙ sym a.0 in
      let same_tail : w.0 ≡ old_tail = tail-one (nodes before) (nodes cells2) before.gate.stamp c old_tail w.0 (ap (λ (x : Node). x.stamp) e) (ap (λ (x : Node). x.right) e)
      (λ z k. let o = old-behind z k in let b = same-look z o.inside o.level in let f = b.1 ∙ sym b.0 in (ap (λ (x : Node). x.stamp) f, ap (λ (x : Node). x.right) f))
      was.group.walks.2 w.2 in
      w.1 ∙ ap (λ (ws : List ℕ). c ∷ ws) same_tail

  tail_ok : (y : ℕ) → 1 ≤ times y old_tail → BlockOk table g2 y (before.block y)
  tail_ok y k =
      let o = old-behind y k in
      let ym = apart g y m o.inside m_fresh in
      let yg : y ≢ gate = (λ e. let a = ap g.level e in let b = tree.level in let u = tree.some in let v = o.level in absurd (omega arith)) in
      subst (BlockOk table g2 y) (block-off y ym) (tree2.blocks y (inside2 y ∙ (rw (ne_eqb y m ym) o.inside)) yg)

  behind_is : s.cuts.behind ≡ map before.block old_tail
  behind_is =
      let at_c = was.group.cells c (rw was.group.walks.1 (let o = same_is c c refl in omega arith)) in
      behind-cut table.hierarchy (nodes before) before.block before.gate.stamp c d.tail old_tail (before.block c) (now.block c) s.new n t s.cuts.behind
      (ap (λ (x : Node). x.stamp) (same-look c at_c.0 at_c.1).0) (λ z k. let o = old-behind z k in ap (λ (x : Node). x.stamp) (same-look z o.inside o.level).0) was.group.walks.2
      (d.behind s.cuts.full ∙ ap (λ (ws : List ℕ). take 2 (drop 1 ws)) was.group.walks.1) s.cuts.cut

  cut : CutUnder g2 (nodes cells2) (nodes now) table (h - 1) c n t m s.left s.right (root_entry before.gate)
  cut = cuts-under g2 (nodes cells2) (nodes now) table tree2.tree r m (h - 1) came_in.row.placed came_in.row.carried came_in.row.at d.valid m_level (root_entry before.gate) [] [] is top_rows top_stamp top_right
      (before.block c) (now.block c) s.new n t (node-block cells2 c c_gate ∙ ap node_of (block-off c c_m)) (now-block c c_gate) (now-block n n_gate ∙ ap node_of fills.0)
      mine.cell mine.unexpected idle2 other parts
      divided.head_stamp divided.head_right divided.new_stamp divided.new_right
      (c_ok.kind ∙ ap (λ l. eqb l 0) c_at.1) c_ok.rows (λ q p. (tree2.numbered q p).1)
      old_tail group2 before.block (λ y k. let o = old-behind y k in (same-look y o.inside o.level).1) tail_ok (λ q ne p ca. tree2.heads q p ca)
      s.left s.right s.cuts.left_is (subst (λ (bs : List Block). IsGroupEntry table.hierarchy n before.gate.stamp s.new bs s.right) behind_is s.cuts.right_is) entries3

  abbrev g3 : Shape
  g3 = cut-shape g2 (nodes cells2) (nodes now) table (h - 1) c n t m s.left s.right (root_entry before.gate) tree2.tree cut

  grew : Grew g2 g3 (λ y. eqb y n) (h - 1) h r m
  grew = grew-cut g2 (nodes cells2) (nodes now) table (h - 1) c n t m s.left s.right (root_entry before.gate) tree2.tree cut r h came_in.row.placed came_in.row.carried came_in.row.at
      (ap g2.head (sym came_in.row.at) ∙ tree2.heads r came_in.row.placed came_in.row.carried ∙ came_in.row.at) (let u = tree.some in omega arith)

  still : (q b : ℕ) → g3.placed q ≡ true → g3.carried q ≡ true → g3.at q ≡ b → b ≢ m → (q ≢ r) × (g2.placed q ≡ true) × (g2.carried q ≡ true) × (g2.at q ≡ b)
  still q b p ca e bm =
      let ne : q ≢ r = (λ z. bm (sym e ∙ ap g3.at z ∙ grew.at_r)) in
      let p1 = sym (grew.placed q) ∙ p in
      let c1 = sym (grew.carried q) ∙ ca in
      (ne, p1, c1, sym (grew.at q ne p1 c1) ∙ e)

  blocks : (b : ℕ) → g3.inside b ≡ true → b ≢ gate → BlockOk table g3 b (now.block b)
  blocks b bi bg = on_bool (eqb b n)
      (λ q. subst (BlockOk table g3 b) (sym (ap now.block (eqb-true _ _ q) ∙ fills.0))
      (block-part table g2 g3 c b (before.block c) s.new c_ok parts.right_kind parts.right_some parts.right_few parts.right_rows parts.right_room ((grew.new b q).2 ∙ sym c_at.1)))
      (λ q. let i1 = sym (grew.inside b q) ∙ bi in on_bool (eqb b c)
      (λ q2. let bc = eqb-true _ _ q2 in
      subst (λ y. BlockOk table g3 b (now.block y)) (sym bc)
      (block-part table g2 g3 c b (before.block c) (now.block c) c_ok parts.left_kind parts.left_some parts.left_few parts.left_rows parts.left_room (grew.level b q ∙ ap g2.level bc)))
      (λ q2. let bc = eqb-false _ _ q2 in on_bool (eqb b m)
      (λ q3. let bm = eqb-true _ _ q3 in
      let lv : g3.level b ≡ h = ap g3.level bm ∙ grew.x_level in
      let u = tree.some in
      subst (BlockOk table g3 b) (sym (ap now.block bm ∙ fills.1.0)) (record {
        kind = sym (ne_eqb (g3.level b) 0 (omega arith));
        some = λ z. omega arith;
        few = omega arith;
        rows = tt;
        room = λ q4 p ca e. refl;
      }))
      (λ q3. let bm = eqb-false _ _ q3 in
      let ok = tree2.blocks b i1 bg in
      block-kept table g2 g3 b (cells2.block b) (now.block b) ok (same_block b bc (eqb-false _ _ q) bm) (grew.level b q) (λ q4 p ca e. let w = still q4 b p ca e bm in ok.room q4 w.1 w.2 w.3))))

  tree3 : IsTree table now g3
  tree3 = assemble table now gate now.gate.height g2 g3 (λ y. eqb y n) (h - 1) h r m (near-tree table cells2 g2 r tree2)
      (tree-cut g2 (nodes cells2) (nodes now) table (h - 1) c n t m s.left s.right (root_entry before.gate) tree2.tree cut) grew
      (let u = height2 in let v = tree.some in omega arith) (let u = height2 in omega arith) d.gate_cell refl
      (λ q ne p ca e. ne (tree2.alone q r p ca came_in.row.placed came_in.row.carried (e ∙ sym came_in.row.at))) blocks

  keep : (x : Spare) → Each (AreApart x) (s.top ∷ s.spare ∷ []) → IsSpare g (nodes before) x → IsSpare g3 (nodes now) x
  keep x apart_x u =
      let v = spare2 x apart_x.0.0 apart_x.0.1 u in
      let roots : Each (λ (e : Entry). e.stamp ≢ x.stamp) (root_entry before.gate ∷ []) = subst (Each (λ (e : Entry). e.stamp ≢ x.stamp)) (ap (λ (y : Node). y.entries) (node-gate before)) (u.unexpected gate (h - 1) tree.top gate_up) in
      record {
        cell = grew.inside x.cell (ne_eqb x.cell n apart_x.1.0.0) ∙ v.cell;
        unexpected = stamps-cut g2 (nodes cells2) (nodes now) table (h - 1) c n t m s.left s.right (root_entry before.gate) tree2.tree cut x.stamp apart_x.1.0.1 (λ e. roots.0 (sym e)) v.unexpected;
      }

  pub after-root : AfterStep table g r entered.at now.gate.height before now purse.spares purse_now.spares
  after-root = subst (λ x. AfterStep table g r x now.gate.height before now purse.spares purse_now.spares) (sym s.at) (record {
    shape = g3;
    tree = tree3;
    row = record {
      placed = grew.placed r ∙ came_in.row.placed;
      carried = grew.carried r ∙ came_in.row.carried;
      at = grew.at_r;
      others_placed = λ q ne. grew.placed q ∙ came_in.row.others_placed q ne;
      others_carried = λ q ne. grew.carried q ∙ came_in.row.others_carried q ne;
      others_at = λ q ne p ca. grew.at q ne (came_in.row.others_placed q ne ∙ p) (came_in.row.others_carried q ne ∙ ca) ∙ came_in.row.others_at q ne p ca;
    };
    level = (let a = grew.x_level in let b = height2 in omega arith);
    levels = λ y i yg.
        let ym = apart g y m i m_fresh in
        let i1 : g1.inside y ≡ true = rw (ne_eqb y m ym) i in
        let yn = apart g2 y n (inside2 y ∙ i1) mine.cell in
        grew.level y (ne_eqb y n yn) ∙ came_in.levels y i1 yg ∙ (rw (ne_eqb y m ym, ne_eqb y gate yg) refl);
    used = s.top ∷ s.spare ∷ [];
    purse_is = purse_is;
    inside = λ y u. grew.inside y (ne_eqb y n u.1.0) ∙ inside2 y ∙ (rw (ne_eqb y m u.0) refl);
    filled = (grew.x_in, ((grew.new n (eq-eqb n n refl)).1, tt));
    spares = keep;
    own = own-spares g g3 (nodes before) (nodes now) (s.top ∷ s.spare ∷ []) purse_now.spares keep (subst (AreSpares g (nodes before)) purse_is d.spares);
    queries = λ must fits items counted u fresh q.
        let q1 = raised_query table g before tree m s.top.stamp m_fresh must fits items counted q in
        let q2 = came_in.queries must fits items counted (each-none (λ x. NoneWaits x.stamp items)) fresh q1 in
        record {
          noted = all_grown c n q2.noted;
          are = items-grown c n q2.noted ∙ q2.are;
          ok = query-cut g2 (nodes cells2) (nodes now) table (h - 1) c n t m s.left s.right (root_entry before.gate) tree2.tree cut must fits q2.noted counted (none-expects t q2.noted items q2.are u.1.0) q2.ok;
        };
  })

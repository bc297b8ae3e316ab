-- A head is cut: some shape fits the cells after it
use Rattle.std.proofs.{Common.{◌≡◌, ◌≢◌, ℕ, ◌+◌, ◌≤◌, inl, inr, Bool, true, false, cond, eqb, leb, List, [], ◌∷◌, refl, sym, ap, ◌∙◌, subst, arith}, lemmas.Bool.{eqb-true, eqb-false, ne_eqb, le-leb, lt-leb, leb-true}}
use Rattle.dc_node.specs.declared.entry.Entry.{Entry}
use Rattle.list_words.specs.Counts.{Each, times}
use Rattle.list_words.proofs.{Each.each-of, Truth.{on_bool, eqb-self}}
use Rattle.tree_shape.specs.{Queries.{QueryOk, fits}, Shape.{Node, Shape, Table}, Trees.TreeOk, Walks.Noted}
use Rattle.tree_shape.proofs.{Cutting.Divisions.{tree-parted, parted-at, parted-past}, Cutting.Made.{divided-made, at_right-made, above_right-made}, Cutting.Relations.{CutUnder, Divided, DividedItems, Grew, IsSumOf, NoneExpects, NoneHas, Parted, all_grown, group_rows, heads_parted, made, parted, block_rows, settles}, Reading.Queries.{apart, query-divided}, Whole.Groups.{block_rows-times, group_rows-times}, Whole.Tails.{IsInTail, behind-head}}

-- two entries that stand in place of one, of which the right one has its stamp
pub stamps-parted : (c t u : ℕ) (a b old : Entry) (es : List Entry) → a.stamp ≡ t → b.stamp ≡ old.stamp → u ≢ t → u ≢ old.stamp → Each (λ e. e.stamp ≢ u) es → Each (λ e. e.stamp ≢ u) (parted c a b es)
stamps-parted c t u a b old [] sa sb ut uo h = tt
stamps-parted c t u a b old (e ∷ es) sa sb ut uo h =
    let ih = stamps-parted c t u a b old es sa sb ut uo h.1 in
    on_bool (eqb e.child c)
    (λ q. rw (parted-at c a b e es q) ((λ z. ut (sym z ∙ sa)), ((λ z. uo (sym z ∙ sb)), ih)))
    (λ q. rw (parted-past c a b e es q) (h.0, ih))

module _ (g : Shape) (look look2 : ℕ → Node) (table : Table) (k c n t p : ℕ) (a b old : Entry) (tree : TreeOk g look table) (d : CutUnder g look look2 table k c n t p a b old) where
  -- the blocks behind the head
  abbrev tail : List ℕ
  tail = d.tail

  abbrev groups : ℕ → List ℕ
  groups h = cond (eqb h c) (c ∷ []) (cond (eqb h n) (n ∷ tail) (g.group h))

  abbrev belows : ℕ → List ℕ
  belows h = cond (eqb h c) (block_rows g (look2 c) k) (cond (eqb h n) (group_rows g look2 k (n ∷ tail)) (g.below h))

  abbrev pub cut-shape : Shape
  cut-shape = made g k c n (look2 n) (heads_parted g n tail) groups belows

  c_n : c ≢ n
  c_n = apart g c n d.c_inside d.fresh

  n_c : n ≢ c
  n_c e = c_n (sym e)

  pub divided : Divided g cut-shape k c n
  divided = divided-made g look look2 table k c n (heads_parted g n tail) groups belows tree d.c_inside d.c_level d.fresh d.rows d.entries

  on-tail : (y : ℕ) → 1 ≤ times y tail → IsInTail g k c tail y
  on-tail = behind-head g look table k c tail old d.old_ok d.old_child d.group

  head-tail : (y : ℕ) → y ≢ n → leb 1 (times y tail) ≡ true → cut-shape.head y ≡ n
  head-tail y h q = rw (ne_eqb y n h, q) refl

  head-other : (y : ℕ) → y ≢ n → leb 1 (times y tail) ≡ false → cut-shape.head y ≡ g.head y
  head-other y h q = rw (ne_eqb y n h, q) refl

  -- a head stays one
  pub head-kept : (y : ℕ) → y ≢ n → g.head y ≡ y → cut-shape.head y ≡ y
  head-kept y h e = on_bool (leb 1 (times y tail))
      (λ q. let o = on-tail y (leb-true _ _ q) in absurd (o.apart (sym e ∙ o.head)))
      (λ q. head-other y h q ∙ e)

  items : DividedItems g cut-shape look look2 k c n t
  items = record {
    div = divided;
    relinked = d.relinked;
    waits = d.waits;
    free = d.free;
    c_head = d.c_head;
    head = λ y h. on_bool (leb 1 (times y tail))
        (λ q. let o = on-tail y (leb-true _ _ q) in inr (o.level, o.head, head-tail y h q))
        (λ q. inl (head-other y h q));
    rows = d.rows;
    entries = d.entries;
    left = d.left;
    right = d.right;
    other_rows = d.other_rows;
    at_right = at_right-made g look look2 table k c n (heads_parted g n tail) groups belows tree d.c_inside d.c_level d.fresh d.rows d.entries;
    above_right = above_right-made g look look2 table k c n (heads_parted g n tail) groups belows tree d.c_inside d.c_level d.fresh d.rows d.entries;
  }

  g2_group_c : cut-shape.group c ≡ c ∷ []
  g2_group_c = rw (eqb-self c) refl

  g2_group_n : cut-shape.group n ≡ n ∷ tail
  g2_group_n = rw (ne_eqb n c n_c, eqb-self n) refl

  g2_below_c : cut-shape.below c ≡ block_rows g (look2 c) k
  g2_below_c = rw (eqb-self c) refl

  g2_below_n : cut-shape.below n ≡ group_rows g look2 k (n ∷ tail)
  g2_below_n = rw (ne_eqb n c n_c, eqb-self n) refl

  parts : Parted g cut-shape look look2 table k c n t p tail a b old
  parts = record {
    items = items;
    new_head = rw (eqb-self n) refl;
    old_ok = d.old_ok;
    old_child = d.old_child;
    old_stamp = d.old_stamp;
    tail_head = λ y h. let o = on-tail y h in head-tail y (apart g y n o.inside d.fresh) (le-leb _ _ h);
    other_head = λ y h z. head-other y h (lt-leb _ _ (omega (arith, z)));
    free_tail = d.free_tail;
    group_was = d.group;
    group_c = g2_group_c;
    group_n = g2_group_n;
    group = λ h hc hn. rw (ne_eqb h c hc, ne_eqb h n hn) refl;
    below = λ h hc hn. rw (ne_eqb h c hc, ne_eqb h n hn) refl;
    below_c = λ q. ap (times q) g2_below_c ∙ block_rows-times g (look2 c) k q;
    below_n = λ q. ap (times q) g2_below_n ∙ group_rows-times g look2 k q (n ∷ tail);
    a_child = d.a_child;
    a_stamp = d.a_stamp;
    a_sum = subst (λ (ns : List ℕ). IsSumOf table ns a) (sym g2_below_c) d.a_sum;
    b_child = d.b_child;
    b_stamp = d.b_stamp;
    b_sum = subst (λ (ns : List ℕ). IsSumOf table ns b) (sym g2_below_n) d.b_sum;
    top_is = d.c_above;
    top_in = d.p_inside;
    top_level = d.p_level;
    entries = d.top;
    other = d.other;
  }

  pub tree-cut : TreeOk cut-shape look2 table
  tree-cut = tree-parted g cut-shape look look2 table k c n t p tail a b old tree.shape tree parts

  pub query-cut : (must fits : ℕ → Bool) (ps : List Noted) (counted : List ℕ) → NoneExpects t ps → QueryOk g look must fits ps counted → QueryOk cut-shape look2 must fits (all_grown c n ps) counted
  query-cut must fits ps counted fresh q = query-divided g cut-shape look k c n tree.shape divided look2 t must fits ps counted d.relinked fresh q

  pub grew-cut : (r h : ℕ) → g.placed r ≡ true → g.carried r ≡ true → g.at r ≡ p → g.head p ≡ p → k + 1 ≡ h → Grew g cut-shape (λ y. eqb y n) k h r p
  grew-cut r h pr cr ar hp kh =
      let np : p ≢ n = apart g p n d.p_inside d.fresh in
      let off : (y : ℕ) → eqb y n ≡ false → y ≢ n = λ y f e. (let w : true ≡ false = sym (eqb-self n) ∙ ap (λ z. eqb z n) (sym e) ∙ f in cc) in
      let stays : (q : ℕ) → g.placed q ≡ true → g.carried q ≡ true → cut-shape.at q ≡ g.at q = λ q pq cq. (let no : settles g c (look2 n).rows q ≡ false = rw (pq, cq) refl in rw no refl) in
      record {
        height = refl;
        inside = λ y f. divided.inside y (off y f);
        level = λ y f. divided.level y (off y f);
        head = λ y f e. head-kept y (off y f) e;
        new = λ y f. let e = eqb-true _ _ f in rw e (d.fresh, divided.new_inside, divided.new_level);
        placed = λ q. refl;
        carried = λ q. refl;
        at_r = stays r pr cr ∙ ar;
        at = λ q ne pq cq. stays q pq cq;
        x_in = divided.inside p np ∙ d.p_inside;
        x_level = divided.level p np ∙ d.p_level ∙ kh;
        x_head = head-kept p np hp;
      }

  pub stamps-cut : (u : ℕ) → u ≢ t → u ≢ old.stamp → NoneHas g look u → NoneHas cut-shape look2 u
  stamps-cut u ut uo h y l i e = on_bool (eqb y n)
      (λ q. let yn = eqb-true _ _ q in
      let kl : k ≡ l + 1 = sym divided.new_level ∙ ap cut-shape.level (sym yn) ∙ e in
      rw yn (each-of (λ (v : Entry). v.stamp ≢ u) (look c).entries (look2 n).entries (h c l d.c_inside (d.c_level ∙ kl)) d.right))
      (λ q. let yn = eqb-false _ _ q in
      let i1 = sym (divided.inside y yn) ∙ i in
      let e1 = sym (divided.level y yn) ∙ e in
      let o = h y l i1 e1 in
      on_bool (eqb y c)
      (λ q2. let yc = eqb-true _ _ q2 in
      let o2 = rw yc at o in
      rw yc (each-of (λ (v : Entry). v.stamp ≢ u) (look c).entries (look2 c).entries o2 d.left))
      (λ q2. let yc = eqb-false _ _ q2 in on_bool (eqb y p)
      (λ q3. let yt = eqb-true _ _ q3 in
      let o2 = rw yt at o in
      rw (yt, d.top) (stamps-parted c t u a b old (look p).entries d.a_stamp d.b_stamp ut uo o2))
      (λ q3. rw (d.other y yc yn (eqb-false _ _ q3)) o)))

-- The whole step down onto a head that is cut, from what it does in the cells
use Rattle.std.proofs.Common.{◌≡◌, ◌≢◌, ℕ, ◌≤◌, inl, inr, Bool, eqb, List, ◌∷◌, refl, sym, ap, ◌∙◌, subst, arith}
use Rattle.dc_node.specs.declared.entry.Entry.{Entry}
use Rattle.list_words.specs.Counts.{times}
use Rattle.list_words.proofs.{Times.each-times, Truth.eqb-self}
use Rattle.tree_shape.specs.{Queries.QueryOk, Shape.{Node, Shape, Table}, Trees.TreeOk, Walks.Noted}
use Rattle.tree_shape.proofs.{Cutting.Cuts.{cut-shape, divided, head-kept, stamps-parted, tree-cut, query-cut}, Cutting.Relations.{CutUnder, Divided, DownDivided, DownParted, Grew, IsSumOf, NoneExpects, NoneHas, all_grown, lower, parted}, Reading.Queries.apart, Whole.Groups.group_rows-same, Whole.Tails.behind-head}
use Rattle.tree_shape.proofs.Onward as O

module _ (g : Shape) (look look3 : ℕ → Node) (table : Table) (k c n t r x : ℕ) (a b old : Entry) (tree : TreeOk g look table) (d : DownParted g look look3 table k c n t r x a b old) where
  -- the parent's entries, two in place of one
  abbrev es : List Entry
  es = parted c a b (look (g.at r)).entries

  abbrev down : DownDivided g look look3 table k c n t r x es
  down = d.down

  -- between the division and the row's way down the parent has the two entries, without r
  abbrev look2 : ℕ → Node
  look2 = O.look2 g look look3 table k c n t r x es tree down

  -- the blocks behind the head
  tail-same : (y : ℕ) → 1 ≤ times y d.tail → look2 y ≡ look3 y
  tail-same y h =
      let o = behind-head g look table k c d.tail old d.old_ok d.old_child d.group y h in
      O.off g look look3 table k c n t r x es tree down y (λ e. let u : g.level y ≡ g.level (g.at r) = ap g.level e in let v = o.level in let w = down.next in absurd (omega arith))

  pub cut : CutUnder g look look2 table k c n t (g.at r) a b old
  cut = record {
    p_inside = O.top_in g look look3 table k c n t r x es tree down;
    p_level = down.next;
    c_inside = down.c_inside;
    c_level = down.c_level;
    c_above = down.c_above;
    c_head = down.c_head;
    fresh = down.fresh;
    free = down.free;
    waits = down.waits;
    relinked = O.relinked2 g look look3 table k c n t r x es tree down;
    rows = O.rows2 g look look3 table k c n t r x es tree down;
    entries = O.entries2 g look look3 table k c n t r x es tree down;
    left = O.left2 g look look3 table k c n t r x es tree down;
    right = O.right2 g look look3 table k c n t r x es tree down;
    old_ok = d.old_ok;
    old_child = d.old_child;
    old_stamp = d.old_stamp;
    tail = d.tail;
    group = d.group;
    free_tail = d.free_tail;
    a_child = d.a_child;
    a_stamp = d.a_stamp;
    a_sum = rw (O.off_c g look look3 table k c n t r x es tree down) d.a_sum;
    b_child = d.b_child;
    b_stamp = d.b_stamp;
    b_sum = subst (λ (ns : List ℕ). IsSumOf table ns b)
        (sym (group_rows-same g look3 look2 k (n ∷ d.tail) (O.off_n g look look3 table k c n t r x es tree down, each-times (λ y. look2 y ≡ look3 y) d.tail tail-same))) d.b_sum;
    top = ap (λ (w : Node). w.entries) (O.on g look look3 table k c n t r x es tree down);
    other_rows = O.kept g look look3 table k c n t r x es tree down (λ (w : Node). w.rows) refl;
    other = λ y yc yn yt. ap (λ (w : Node). w.entries) (O.off g look look3 table k c n t r x es tree down y yt ∙ down.other y yc yn yt);
  }

  abbrev g2 : Shape
  g2 = cut-shape g look look2 table k c n t (g.at r) a b old tree cut

  abbrev pub g3 : Shape
  g3 = lower g2 r x

  div : Divided g g2 k c n
  div = divided g look look2 table k c n t (g.at r) a b old tree cut

  kept-head : (y : ℕ) → y ≢ n → g.head y ≡ y → g2.head y ≡ y
  kept-head = head-kept g look look2 table k c n t (g.at r) a b old tree cut

  x-head : g2.head x ≡ x
  x-head = elim down.chosen [
    | inl e ↦ subst (λ y. g2.head y ≡ y) (sym e) (kept-head c (apart g c n down.c_inside down.fresh) down.c_head)
    | inr e ↦ subst (λ y. g2.head y ≡ y) (sym e) (rw (eqb-self n) refl)
  ]

  tree2 : TreeOk g2 look2 table
  tree2 = tree-cut g look look2 table k c n t (g.at r) a b old tree cut

  pub tree-split : TreeOk g3 look3 table
  tree-split = O.tree-onward g look look3 table k c n t r x es tree down g2 div kept-head x-head tree2

  pub query-split : (must fits : ℕ → Bool) (ps : List Noted) (counted : List ℕ) → NoneExpects t ps → QueryOk g look must fits ps counted → QueryOk g3 look3 must fits (all_grown c n ps) counted
  query-split must fits ps counted fresh q =
      O.query-onward g look look3 table k c n t r x es tree down g2 div kept-head x-head tree2 must fits (all_grown c n ps) counted
      (query-cut g look look2 table k c n t (g.at r) a b old tree cut must fits ps counted fresh q)

  pub grew-split : Grew g g3 (λ y. eqb y n) k k r x
  grew-split = O.grew-onward g look look3 table k c n t r x es tree down g2 div kept-head x-head tree2

  pub stamps-split : (u : ℕ) → u ≢ t → u ≢ old.stamp → NoneHas g look u → NoneHas g3 look3 u
  stamps-split u ut uo = O.stamps-onward g look look3 table k c n t r x es tree down g2 div kept-head x-head tree2 u (stamps-parted c t u a b old (look (g.at r)).entries d.a_stamp d.b_stamp ut uo)

-- A row comes down from a directory onto the head of an entry's group: the words of the calls' contracts, put as relations
-- of nodes
use Rattle.std.proofs.{Common.{◌≡◌, ◌≢◌, inl, ℕ, ◌+◌, ◌-◌, ◌≤◌, ◌⊎◌, true, false, eqb, leb, List, [], ◌∷◌, ◌++◌, map, refl, sym, ap, ◌∙◌, subst, arith}, lemmas.Bool.{eqb-true, eqb-false, leb-true, leb-false}}
use Rattle.std.specs.Prelude.{Some}
use Rattle.dim_hierarchy.specs.{Rows.IsRowOf, declared.row.Row.Row}
use Rattle.dc_node.specs.{Block.{rows_in, entries_in, is_leaf}, Entry.IsWithRow, Summary.IsSummary, declared.block.Block.Block, declared.block.Body.Body, declared.block.Body.TheVariants.{Rows, Entries}, declared.entry.Entry.Entry}
use Rattle.link_descent.specs.{Descend.{IsEntryOf, IsGroupEntry}, Divide.together}
use Rattle.list_words.specs.Counts.{Among, Each, times, total}
use Rattle.list_words.proofs.{Each.{each-right, each-of, each-map}, Times.{same_is, each-times}, Truth.on_bool}
use Rattle.tree_shape.specs.{Shape.{Node, Shape, Table, node_of, numbers}, Trees.{BlockOk, EntryOk, TreeOk, lies}}
use Rattle.tree_shape.proofs.{Cutting.Contents.ArePartsOf, Cutting.Relations.{CutUnder, DownJoined, DownParted, DownPassed, IsSumOf, NoneHas, Relinked, Touch, Touched, group_rows, parted, block_rows}, Down.Onto.{child_in, child_head, child_above, entry_ok, touched-one, touched-two}, Reading.Queries.apart, Whole.Groups.sum-group, Whole.Sums.sum-block, Whole.Tails.{IsInTail, behind-head}}

-- the rows of a leaf of the tree are valid
pub leaf-valid : (g : Shape) (look : ℕ → Node) (table : Table) (c : ℕ) (block : Block) → TreeOk g look table → g.inside c ≡ true → g.level c ≡ 0 → look c ≡ node_of block
    → Each (λ r. table.row r.no ≡ r) (rows_in block.body) → ((q : ℕ) → g.placed q ≡ true → IsRowOf table.hierarchy (table.row q)) → Each (IsRowOf table.hierarchy) (rows_in block.body)
leaf-valid g look table c block tree ci cl is named valid = go (rows_in block.body) named (λ q. ap (λ (x : Node). times q x.rows) (sym is) ∙ tree.leaves c ci cl q)
  where
    there : (q : ℕ) → 1 ≤ lies g c q → g.placed q ≡ true
    there q h = on_bool (g.placed q) (λ p. p) (λ p. let z : lies g c q ≡ 0 = rw p refl in absurd (omega arith))

    all : (rows : List Row) → Each (λ r. table.row r.no ≡ r) rows → ((q : ℕ) → 1 ≤ times q (numbers rows) → g.placed q ≡ true) → Each (IsRowOf table.hierarchy) rows
    all [] n h = tt
    all (r ∷ rows) n h =
        let o = same_is r.no r.no refl in
        (subst (IsRowOf table.hierarchy) n.0 (valid r.no (h r.no (omega arith))), all rows n.1 (λ q k. h q (omega arith)))

    go : (rows : List Row) → Each (λ r. table.row r.no ≡ r) rows → ((q : ℕ) → times q (numbers rows) ≡ lies g c q) → Each (IsRowOf table.hierarchy) rows
    go rows n h = all rows n (λ q k. let e = h q in there q (omega arith))

-- what the entries of a block of the tree say is beneath them
pub entry-sums : (g : Shape) (look : ℕ → Node) (table : Table) (y k : ℕ) (block : Block) → TreeOk g look table → g.inside y ≡ true → g.level y ≡ k → look y ≡ node_of block → is_leaf block.body ≡ eqb k 0
    → Each (λ x. IsSumOf table (g.below x.child) x) (entries_in block.body)
entry-sums g look table y k block tree yi yl is kind = on_bool (eqb k 0)
    (λ q. none block.body (kind ∙ q))
    (λ q. let z = eqb-false _ _ q in
    let lv : g.level y ≡ (k - 1) + 1 = omega arith in
    subst (λ (x : Node). Each (λ x. IsSumOf table (g.below x.child) x) x.entries) is
    (each-map (EntryOk g look table (k - 1)) (λ x. IsSumOf table (g.below x.child) x) (look y).entries (λ x w. w.summary) (tree.dirs y (k - 1) yi lv).entries))
  where
    none : (body : Body) → is_leaf body ≡ true → Each (λ x. IsSumOf table (g.below x.child) x) (entries_in body)
    none (Rows rows) h = tt
    none (Entries entries) h = cc

module _ (g : Shape) (look look3 : ℕ → Node) (table : Table) (tree : TreeOk g look table) (r p k : ℕ)
    (placed : g.placed r ≡ true) (carried : g.carried r ≡ true) (at : g.at r ≡ p) (numbered : IsRowOf table.hierarchy (table.row r)) (pl : g.level p ≡ k + 1)
    (e : Entry) (before behind : List Entry) (is : (look p).entries ≡ before ++ e ∷ behind)
    (top_rows : (look3 p).rows ≡ (look p).rows) (top_stamp : (look3 p).stamp ≡ (look p).stamp) (top_right : (look3 p).right ≡ (look p).right) where
  abbrev c : ℕ
  c = e.child

  p_in : g.inside p ≡ true
  p_in = subst (λ y. g.inside y ≡ true) at (tree.shape.stands r placed)

  pub c_in : (g.inside c ≡ true) × (g.level c ≡ k)
  c_in = child_in g look table tree p k p_in pl e before behind is

  pub c_head : g.head c ≡ c
  c_head = child_head g look table tree p k p_in pl e before behind is

  c_above : g.above c (k + 1) ≡ g.at r
  c_above = child_above g look table tree p k p_in pl e before behind is ∙ sym at

  pub c_top : c ≢ p
  c_top q = let a : g.level c ≡ g.level p = ap g.level q in let b = c_in.1 in absurd (omega arith)

  next : g.level (g.at r) ≡ k + 1
  next = ap g.level at ∙ pl

  one-touched : (e2 : Entry) → IsWithRow table.hierarchy (table.row r) e e2 → (look3 p).entries ≡ (before ++ e2 ∷ []) ++ behind → Touched table r c (look (g.at r)).entries (look3 (g.at r)).entries
  one-touched e2 w i = subst (λ y. Touched table r c (look y).entries (look3 y).entries) (sym at) (rw i (touched-one g look table tree p k p_in pl e before behind is r e2 w))

  pub passed : (e2 : Entry) → IsWithRow table.hierarchy (table.row r) e e2 → (look3 p).entries ≡ (before ++ e2 ∷ []) ++ behind → ((y : ℕ) → y ≢ p → look3 y ≡ look y) → DownPassed g look look3 table k c r
  passed e2 w i other = record {
    r_placed = placed;
    r_carried = carried;
    c_inside = c_in.0;
    c_level = c_in.1;
    next = next;
    c_above = c_above;
    c_head = c_head;
    numbered = numbered;
    top = one-touched e2 w i;
    top_rows = rw at top_rows;
    top_stamp = rw at top_stamp;
    top_right = rw at top_right;
    other = λ y h. other y (λ q. h (q ∙ sym at));
  }

  module _ (old head new : Block) (n t : ℕ) (old_is : look c ≡ node_of old) (head_is : look3 c ≡ node_of head) (new_is : look3 n ≡ node_of new)
      (fresh : g.inside n ≡ false) (unused : NoneHas g look t) (idle : (q : ℕ) → g.placed q ≡ true → g.carried q ≡ true → g.at q ≢ c)
      (other : (y : ℕ) → y ≢ c → y ≢ n → y ≢ p → look3 y ≡ look y)
      (parts : ArePartsOf old.body head.body new.body)
      (head_stamp : head.stamp ≡ t) (head_right : head.right ≡ Some n) (new_stamp : new.stamp ≡ old.stamp) (new_right : new.right ≡ old.right) where
    pub relinked : Relinked look look3 c n t
    relinked = record {
      head_stamp = ap (λ (x : Node). x.stamp) head_is ∙ head_stamp;
      head_right = ap (λ (x : Node). x.right) head_is ∙ head_right;
      new_stamp = ap (λ (x : Node). x.stamp) new_is ∙ new_stamp ∙ sym (ap (λ (x : Node). x.stamp) old_is);
      new_right = ap (λ (x : Node). x.right) new_is ∙ new_right ∙ sym (ap (λ (x : Node). x.right) old_is);
      other_stamp = λ y yc yn. on_bool (eqb y p)
          (λ q. let z = eqb-true _ _ q in rw z top_stamp)
          (λ q. ap (λ (x : Node). x.stamp) (other y yc yn (eqb-false _ _ q)));
      other_right = λ y yc yn. on_bool (eqb y p)
          (λ q. let z = eqb-true _ _ q in rw z top_right)
          (λ q. ap (λ (x : Node). x.right) (other y yc yn (eqb-false _ _ q)));
    }

    pub part-rows : (q : ℕ) → times q (look c).rows ≡ times q (look3 c).rows + times q (look3 n).rows
    part-rows q = rw (old_is, head_is, new_is) (parts.rows q)

    pub part-entries : (f : Entry → ℕ) → total f (look c).entries ≡ total f (look3 c).entries + total f (look3 n).entries
    part-entries f = rw (old_is, head_is, new_is) (parts.entries f)

    pub part-left : Each (λ x. Among x (look c).entries) (look3 c).entries
    part-left = rw (old_is, head_is) parts.left_entries

    pub part-right : Each (λ x. Among x (look c).entries) (look3 n).entries
    part-right = rw (old_is, new_is) parts.right_entries

    pub joins : (e2 : Entry) → IsWithRow table.hierarchy (table.row r) e e2 → (look3 p).entries ≡ (before ++ e2 ∷ []) ++ behind → DownJoined g look look3 table k c n t r
    joins e2 w i = record {
      r_placed = placed;
      r_carried = carried;
      c_inside = c_in.0;
      c_level = c_in.1;
      next = next;
      c_above = c_above;
      c_head = c_head;
      fresh = fresh;
      free = idle;
      waits = unused;
      relinked = relinked;
      rows = part-rows;
      entries = part-entries;
      left = part-left;
      right = part-right;
      chosen = inl refl;
      top = one-touched e2 w i;
      numbered = numbered;
      top_rows = rw at top_rows;
      other = λ y yc yn yt. other y yc yn (λ q. yt (q ∙ sym at));
    }

    module _ (kind : is_leaf old.body ≡ eqb k 0) (named : Each (λ r. table.row r.no ≡ r) (rows_in old.body)) (valid : (q : ℕ) → g.placed q ≡ true → IsRowOf table.hierarchy (table.row q))
        (tail : List ℕ) (group : g.group c ≡ c ∷ tail) (block : ℕ → Block) (tail_is : (y : ℕ) → 1 ≤ times y tail → look y ≡ node_of (block y)) (tail_ok : (y : ℕ) → 1 ≤ times y tail → BlockOk table g y (block y))
        (heads : (q : ℕ) → q ≢ r → g.placed q ≡ true → g.carried q ≡ true → g.head (g.at q) ≡ g.at q) where
      -- the head and the new block

      old-valid : k ≡ 0 → Each (IsRowOf table.hierarchy) (rows_in old.body)
      old-valid z = leaf-valid g look table c old tree c_in.0 (c_in.1 ∙ z) old_is named valid

      old-sums : Each (λ x. IsSumOf table (g.below x.child) x) (look c).entries
      old-sums = rw old_is (entry-sums g look table c k old tree c_in.0 c_in.1 old_is kind)

      part-named : (rows : List Row) → Each (λ x. Among x (rows_in old.body)) rows → Each (λ r. table.row r.no ≡ r) rows
      part-named rows h = each-of (λ r. table.row r.no ≡ r) (rows_in old.body) rows named h

      part-valid : (rows : List Row) → Each (λ x. Among x (rows_in old.body)) rows → k ≡ 0 → Each (IsRowOf table.hierarchy) rows
      part-valid rows h z = each-of (IsRowOf table.hierarchy) (rows_in old.body) rows (old-valid z) h

      part-sums : (body : Body) (y : ℕ) → (look3 y).entries ≡ entries_in body → Each (λ x. Among x (look c).entries) (look3 y).entries → Each (λ x. IsSumOf table (g.below x.child) x) (entries_in body)
      part-sums body y bi h = subst (Each (λ (x : Entry). IsSumOf table (g.below x.child) x)) bi (each-of (λ x. IsSumOf table (g.below x.child) x) (look c).entries (look3 y).entries old-sums h)

      head-sum : (a : Entry) → IsSummary table.hierarchy head.body a.agg a.set → IsSumOf table (block_rows g (look3 c) k) a
      head-sum a s = rw head_is
          (sum-block g table k head a (parts.left_kind ∙ kind) (part-named (rows_in head.body) parts.left_rows) (part-valid (rows_in head.body) parts.left_rows)
          (part-sums head.body c (ap (λ (x : Node). x.entries) head_is) part-left) s)

      -- the blocks behind the head, which stay as they are

      on-tail : (y : ℕ) → 1 ≤ times y tail → IsInTail g k c tail y
      on-tail = behind-head g look table k c tail e (entry_ok g look table tree p k p_in pl e before behind is) refl group

      tail_look : (y : ℕ) → 1 ≤ times y tail → look3 y ≡ node_of (block y)
      tail_look y h =
          let o = on-tail y h in
          let yn : y ≢ n = apart g y n o.inside fresh in
          let yp : y ≢ p = (λ q. let u : g.level y ≡ g.level p = ap g.level q in let v = o.level in absurd (omega arith)) in
          other y o.apart yn yp ∙ tail_is y h

      tail_kind : (y : ℕ) → 1 ≤ times y tail → is_leaf (block y).body ≡ eqb k 0
      tail_kind y h = (tail_ok y h).kind ∙ ap (λ l. eqb l 0) (on-tail y h).level

      tail_valid : (y : ℕ) → 1 ≤ times y tail → k ≡ 0 → Each (IsRowOf table.hierarchy) (rows_in (block y).body)
      tail_valid y h z = let o = on-tail y h in leaf-valid g look table y (block y) tree o.inside (o.level ∙ z) (tail_is y h) (tail_ok y h).rows valid

      tail_sums : (y : ℕ) → 1 ≤ times y tail → Each (λ x. IsSumOf table (g.below x.child) x) (entries_in (block y).body)
      tail_sums y h = let o = on-tail y h in entry-sums g look table y k (block y) tree o.inside o.level (tail_is y h) (tail_kind y h)

      new-sum : (b : Entry) → IsSummary table.hierarchy (together new.body (map block tail)) b.agg b.set → IsSumOf table (group_rows g look3 k (n ∷ tail)) b
      new-sum b s = sum-group g look3 table k n new block tail b new_is (parts.right_kind ∙ kind)
          (each-times (λ y. look3 y ≡ node_of (block y)) tail tail_look)
          (part-named (rows_in new.body) parts.right_rows) (each-times (λ y. Each (λ r. table.row r.no ≡ r) (rows_in (block y).body)) tail (λ y h. (tail_ok y h).rows))
          (part-valid (rows_in new.body) parts.right_rows) (λ z. each-times (λ y. Each (IsRowOf table.hierarchy) (rows_in (block y).body)) tail (λ y h. tail_valid y h z))
          (part-sums new.body n (ap (λ (x : Node). x.entries) new_is) part-right) (each-times (λ y. Each (λ x. IsSumOf table (g.below x.child) x) (entries_in (block y).body)) tail tail_sums) s

      tail_free : (q : ℕ) → g.placed q ≡ true → g.carried q ≡ true → times (g.at q) tail ≡ 0
      tail_free q pq cq = on_bool (leb 1 (times (g.at q) tail))
          (λ z. let o = on-tail (g.at q) (leb-true _ _ z) in on_bool (eqb q r)
          (λ u. let l : g.level (g.at q) ≡ g.level p = ap g.level (ap g.at (eqb-true _ _ u) ∙ at) in let v = o.level in absurd (omega arith))
          (λ u. absurd (o.apart (sym (heads q (eqb-false _ _ u) pq cq) ∙ o.head))))
          (λ z. let gt = leb-false _ _ z in omega arith)

      unexpected : e.stamp ≢ t
      unexpected = (each-right (λ (x : Entry). x.stamp ≢ t) before (e ∷ behind) (subst (Each (λ (x : Entry). x.stamp ≢ t)) is (unused p k p_in pl))).0

      pub splits : (x : ℕ) (a b a2 b2 : Entry) → IsEntryOf table.hierarchy c head a → IsGroupEntry table.hierarchy n e.stamp new (map block tail) b
          → Touch table r x a a2 → Touch table r x b b2 → (x ≡ c) ⊎ (x ≡ n) → (look3 p).entries ≡ (before ++ a2 ∷ b2 ∷ []) ++ behind → DownParted g look look3 table k c n t r x a b e
      splits x a b a2 b2 ea eb ta tb which i = record {
        down = record {
          r_placed = placed;
          r_carried = carried;
          c_inside = c_in.0;
          c_level = c_in.1;
          next = next;
          c_above = c_above;
          c_head = c_head;
          fresh = fresh;
          free = idle;
          waits = unused;
          relinked = relinked;
          rows = part-rows;
          entries = part-entries;
          left = part-left;
          right = part-right;
          chosen = which;
          top = subst (λ y. Touched table r x (parted c a b (look y).entries) (look3 y).entries) (sym at) (rw i (touched-two g look table tree p k p_in pl e before behind is r n x a b a2 b2 fresh ta tb which));
          numbered = numbered;
          top_rows = rw at top_rows;
          other = λ y yc yn yt. other y yc yn (λ q. yt (q ∙ sym at));
        };
        old_ok = entry_ok g look table tree p k p_in pl e before behind is;
        old_child = refl;
        old_stamp = unexpected;
        tail = tail;
        group = group;
        free_tail = tail_free;
        a_child = ea.child;
        a_stamp = ea.stamp ∙ head_stamp;
        a_sum = head-sum a ea.summary;
        b_child = eb.child;
        b_stamp = eb.stamp;
        b_sum = new-sum b eb.summary;
      }

      -- the same, where no row moves
      pub cuts-under : (a b : Entry) → IsEntryOf table.hierarchy c head a → IsGroupEntry table.hierarchy n e.stamp new (map block tail) b → (look3 p).entries ≡ parted c a b (look p).entries → CutUnder g look look3 table k c n t p a b e
      cuts-under a b ea eb i = record {
        p_inside = p_in;
        p_level = pl;
        c_inside = c_in.0;
        c_level = c_in.1;
        c_above = c_above ∙ at;
        c_head = c_head;
        fresh = fresh;
        free = idle;
        waits = unused;
        relinked = relinked;
        rows = part-rows;
        entries = part-entries;
        left = part-left;
        right = part-right;
        old_ok = entry_ok g look table tree p k p_in pl e before behind is;
        old_child = refl;
        old_stamp = unexpected;
        tail = tail;
        group = group;
        free_tail = tail_free;
        a_child = ea.child;
        a_stamp = ea.stamp ∙ head_stamp;
        a_sum = head-sum a ea.summary;
        b_child = eb.child;
        b_stamp = eb.stamp;
        b_sum = new-sum b eb.summary;
        top = i;
        other_rows = λ y yc yn. on_bool (eqb y p)
            (λ q. let z = eqb-true _ _ q in rw z top_rows)
            (λ q. ap (λ (x : Node). x.rows) (other y yc yn (eqb-false _ _ q)));
        other = λ y yc yn yp. ap (λ (x : Node). x.entries) (other y yc yn yp);
      }

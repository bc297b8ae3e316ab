-- The row's way down onto a head that was divided, which is the same whether it was halved or cut.
use Rattle.std.proofs.{Common.{◌≡◌, ◌≢◌, ℕ, ◌+◌, inl, inr, true, false, cond, eqb, List, Bool, refl, sym, ap, ◌∙◌, subst, arith}, lemmas.Bool.{eqb-true, eqb-false, ne_eqb}}
use Rattle.dc_node.specs.declared.entry.Entry.{Entry}
use Rattle.list_words.specs.Counts.{Among, Each, times, total}
use Rattle.list_words.proofs.{Each.each-of, Truth.{on_bool, eqb-self}}
use Rattle.tree_shape.specs.{Queries.QueryOk, Shape.{Node, Shape, Table}, Trees.TreeOk, Walks.Noted}
use Rattle.tree_shape.proofs.{Cutting.Relations.{Divided, DownDivided, Grew, Lowered, LoweredTree, NoneHas, Relinked, SameLinks, lower}, Down.Passes.stamps-touched, Reading.Queries.{apart, query-lowered}, Whole.Trees.tree-lowered}

module _ (g : Shape) (look look3 : ℕ → Node) (table : Table) (k c n t r x : ℕ) (es : List Entry) (tree : TreeOk g look table) (d : DownDivided g look look3 table k c n t r x es) where
  abbrev top_block : Node
  top_block = record { stamp = (look (g.at r)).stamp; right = (look (g.at r)).right; rows = (look (g.at r)).rows; entries = es }

  -- between the division and the row's way down the parent has these entries, without r
  abbrev pub look2 : ℕ → Node
  look2 y = cond (eqb y (g.at r)) top_block (look3 y)

  pub top_in : g.inside (g.at r) ≡ true
  top_in = tree.shape.stands r d.r_placed

  c_top : c ≢ g.at r
  c_top e = let u : g.level c ≡ g.level (g.at r) = ap g.level e in let v = d.c_level in let w = d.next in absurd (omega arith)

  n_top : n ≢ g.at r
  n_top e = apart g (g.at r) n top_in d.fresh (sym e)

  c_n : c ≢ n
  c_n = apart g c n d.c_inside d.fresh

  pub off : (y : ℕ) → y ≢ g.at r → look2 y ≡ look3 y
  off y h = rw (ne_eqb y (g.at r) h) refl

  pub off_c : look2 c ≡ look3 c
  off_c = off c c_top

  pub off_n : look2 n ≡ look3 n
  off_n = off n n_top

  pub on : look2 (g.at r) ≡ top_block
  on = rw (eqb-self (g.at r)) refl

  -- of a cell that isn't c or n all but the entries is as it was
  pub kept : {A : Type 0} (f : Node → A) → f top_block ≡ f (look (g.at r)) → (y : ℕ) → y ≢ c → y ≢ n → f (look2 y) ≡ f (look y)
  kept f h y yc yn = on_bool (eqb y (g.at r))
      (λ q. let e = eqb-true _ _ q in rw (e, on) h)
      (λ q. let ne = eqb-false _ _ q in ap f (off y ne ∙ d.other y yc yn ne))

  pub relinked2 : Relinked look look2 c n t
  relinked2 = record {
    head_stamp = rw off_c d.relinked.head_stamp;
    head_right = rw off_c d.relinked.head_right;
    new_stamp = rw off_n d.relinked.new_stamp;
    new_right = rw off_n d.relinked.new_right;
    other_stamp = kept (λ (b : Node). b.stamp) refl;
    other_right = kept (λ (b : Node). b.right) refl;
  }

  pub rows2 : (q : ℕ) → times q (look c).rows ≡ times q (look2 c).rows + times q (look2 n).rows
  rows2 q = rw (off_c, off_n) (d.rows q)

  pub entries2 : (f : Entry → ℕ) → total f (look c).entries ≡ total f (look2 c).entries + total f (look2 n).entries
  entries2 f = rw (off_c, off_n) (d.entries f)

  pub left2 : Each (λ e. Among e (look c).entries) (look2 c).entries
  left2 = rw off_c d.left

  pub right2 : Each (λ e. Among e (look c).entries) (look2 n).entries
  right2 = rw off_n d.right

  -- after the division there is a tree in which x is a head
  module _ (g2 : Shape) (div : Divided g g2 k c n) (kept_head : (y : ℕ) → y ≢ n → g.head y ≡ y → g2.head y ≡ y) (x_head : g2.head x ≡ x) (tree2 : TreeOk g2 look2 table) where
    abbrev g3 : Shape
    g3 = lower g2 r x

    -- a row that is carried is still where it was
    at-carried : (q : ℕ) → g.placed q ≡ true → g.carried q ≡ true → g2.at q ≡ g.at q
    at-carried q p f = elim (div.at q p) [ inl e ↦ e | inr w ↦ (let no : true ≡ false = sym f ∙ w.2 in absurd (cc)) ]

    at_r : g2.at r ≡ g.at r
    at_r = at-carried r d.r_placed d.r_carried

    top_n : g.at r ≢ n
    top_n e = n_top (sym e)

    -- what is said of x, which is c or n
    either : (P : ℕ → Type 0) → P c → P n → P x
    either P pc pn = elim d.chosen [ inl e ↦ subst P (sym e) pc | inr e ↦ subst P (sym e) pn ]

    x_level : g2.level x ≡ k
    x_level = either (λ y. g2.level y ≡ k) (div.level c c_n ∙ d.c_level) div.new_level

    top_level : g2.level (g2.at r) ≡ k + 1
    top_level = ap g2.level at_r ∙ div.level (g.at r) top_n ∙ d.next

    low : Lowered g2 g3 r x
    low =
        let xl = x_level in
        let tl = top_level in
        let up : g2.above x (k + 1) ≡ g.at r = either (λ y. g2.above y (k + 1) ≡ g.at r)
        (elim (div.above c (k + 1) d.c_inside (let u = d.c_level in omega arith)) [ inl e ↦ e ∙ d.c_above | inr w ↦ (let z = w.0 in absurd (omega arith)) ])
        (div.new_above (k + 1) (omega arith) ∙ d.c_above) in
        record {
          tree = record { height = refl; inside = λ y. refl; level = λ y. refl; above = λ y l. refl };
          c_inside = either (λ y. g2.inside y ≡ true) (div.inside c c_n ∙ d.c_inside) div.new_inside;
          c_level = omega arith;
          c_above = ap (g2.above x) tl ∙ up ∙ sym at_r;
          r_placed = div.placed r ∙ d.r_placed;
          r_carried = div.carried r ∙ d.r_carried;
          placed = λ q. refl;
          carried = λ q. refl;
          now = rw (eqb-self r) refl;
          at = λ q h. rw (ne_eqb q r h) refl;
        }

    links : SameLinks look2 look3
    links = record {
      stamp = λ y. on_bool (eqb y (g.at r))
          (λ q. let e = eqb-true _ _ q in rw (e, on) (d.relinked.other_stamp (g.at r) (λ u. c_top (sym u)) top_n))
          (λ q. ap (λ (b : Node). b.stamp) (sym (off y (eqb-false _ _ q))));
      right = λ y. on_bool (eqb y (g.at r))
          (λ q. let e = eqb-true _ _ q in rw (e, on) (d.relinked.other_right (g.at r) (λ u. c_top (sym u)) top_n))
          (λ q. ap (λ (b : Node). b.right) (sym (off y (eqb-false _ _ q))));
    }

    lowered : LoweredTree g2 g3 look2 look3 table r x
    lowered = record {
      low = low;
      next = (let xl = x_level in let tl = top_level in omega arith);
      c_head = x_head;
      group = λ h. refl;
      head = λ y. refl;
      below_c = rw (eqb-self x) refl;
      below = λ h ne. rw (ne_eqb h x ne) refl;
      links = links;
      rows = λ y. on_bool (eqb y (g.at r))
          (λ q. let e = eqb-true _ _ q in rw (e, on) d.top_rows)
          (λ q. ap (λ (b : Node). b.rows) (sym (off y (eqb-false _ _ q))));
      entries = rw (at_r, on) d.top;
      numbered = d.numbered;
      other = λ y ne. ap (λ (b : Node). b.entries) (sym (off y (λ e. ne (e ∙ sym at_r))));
    }

    pub tree-onward : TreeOk g3 look3 table
    tree-onward = tree-lowered g2 g3 look2 look3 table r x tree2.shape lowered tree2

    pub query-onward : (must fits : ℕ → Bool) (ps : List Noted) (counted : List ℕ) → QueryOk g2 look2 must fits ps counted → QueryOk g3 look3 must fits ps counted
    query-onward must fits ps counted = query-lowered g2 g3 look2 look3 r x must fits ps counted tree2.shape low links

    grew-n : (y : ℕ) → eqb y n ≡ false → y ≢ n
    grew-n y f e = let w : true ≡ false = sym (eqb-self n) ∙ ap (λ z. eqb z n) (sym e) ∙ f in cc

    pub grew-onward : Grew g g3 (λ y. eqb y n) k k r x
    grew-onward = record {
      height = div.height;
      inside = λ y f. div.inside y (grew-n y f);
      level = λ y f. div.level y (grew-n y f);
      head = λ y f e. kept_head y (grew-n y f) e;
      new = λ y f. let e = eqb-true _ _ f in rw e (d.fresh, div.new_inside, div.new_level);
      placed = div.placed;
      carried = div.carried;
      at_r = rw (eqb-self r) refl;
      at = λ q ne p f. rw (ne_eqb q r ne) (at-carried q p f);
      x_in = low.c_inside;
      x_level = x_level;
      x_head = x_head;
    }

    -- the parent's entries after the division have no stamp but those before and the fresh one
    pub stamps-onward : (u : ℕ) → (Each (λ (v : Entry). v.stamp ≢ u) (look (g.at r)).entries → Each (λ (v : Entry). v.stamp ≢ u) es) → NoneHas g look u → NoneHas g3 look3 u
    stamps-onward u after h y l i e = on_bool (eqb y n)
        (λ q. let yn = eqb-true _ _ q in
        let kl : k ≡ l + 1 = sym div.new_level ∙ ap g3.level (sym yn) ∙ e in
        rw yn (each-of (λ (v : Entry). v.stamp ≢ u) (look c).entries (look3 n).entries (h c l d.c_inside (d.c_level ∙ kl)) d.right))
        (λ q. let yn = eqb-false _ _ q in
        let i1 = sym (div.inside y yn) ∙ i in
        let e1 = sym (div.level y yn) ∙ e in
        let o = h y l i1 e1 in
        on_bool (eqb y c)
        (λ q2. let yc = eqb-true _ _ q2 in
        let o2 = rw yc at o in
        rw yc (each-of (λ (v : Entry). v.stamp ≢ u) (look c).entries (look3 c).entries o2 d.left))
        (λ q2. let yc = eqb-false _ _ q2 in on_bool (eqb y (g.at r))
        (λ q3. let yt = eqb-true _ _ q3 in
        let o2 = rw yt at o in
        rw yt (stamps-touched table r x u es (look3 (g.at r)).entries d.top (after o2)))
        (λ q3. rw (d.other y yc yn (eqb-false _ _ q3)) o)))

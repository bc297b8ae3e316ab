-- A division of any block into two parts has a shape
use Rattle.std.proofs.{Common.{◌≡◌, ◌≢◌, ℕ, ◌+◌, ◌-◌, ◌<◌, ◌≤◌, ◌⊎◌, inl, inr, Bool, true, false, cond, eqb, leb, List, refl, sym, ap, ◌∙◌, arith}, lemmas.Bool.{eqb-true, eqb-false, ne_eqb, eq-eqb, leb-true, lt-leb, leb-false}}
use Rattle.dc_node.specs.declared.entry.Entry.{Entry}
use Rattle.list_words.specs.Counts.{same, times, total}
use Rattle.list_words.proofs.{Times.{same_is, same_not}, Truth.{on_bool, eqb-self}}
use Rattle.tree_shape.specs.{Shape.{Node, Shape, Table}, Trees.TreeOk}
use Rattle.tree_shape.proofs.{Cutting.Relations.{Divided, goes, made, settles}, Reading.Queries.apart, Reading.Visits.spans}

and_then : (a b : Bool) → cond a b false ≡ true → (a ≡ true) × (b ≡ true)
and_then true b h = (refl, h)
and_then false b h = cc

unless_then : (a b : Bool) → cond a false b ≡ true → (a ≡ false) × (b ≡ true)
unless_then true b h = cc
unless_then false b h = (refl, h)

module _ (g : Shape) (look look2 : ℕ → Node) (table : Table) (k c n : ℕ) (heads : ℕ → ℕ) (groups belows : ℕ → List ℕ) (tree : TreeOk g look table)
    (ci : g.inside c ≡ true) (cl : g.level c ≡ k) (fresh : g.inside n ≡ false)
    (rows : (r : ℕ) → times r (look c).rows ≡ times r (look2 c).rows + times r (look2 n).rows)
    (entries : (f : Entry → ℕ) → total f (look c).entries ≡ total f (look2 c).entries + total f (look2 n).entries) where
  abbrev g2 : Shape
  g2 = made g k c n (look2 n) heads groups belows

  not-n : (y : ℕ) → g.inside y ≡ true → y ≢ n
  not-n y i = apart g y n i fresh

  inside-old : (y : ℕ) → y ≢ n → g2.inside y ≡ g.inside y
  inside-old y h = rw (ne_eqb y n h) refl

  level-old : (y : ℕ) → y ≢ n → g2.level y ≡ g.level y
  level-old y h = rw (ne_eqb y n h) refl

  above-off : (y l : ℕ) → y ≢ n → l ≢ k → g2.above y l ≡ g.above y l
  above-off y l h lk = rw (ne_eqb y n h, ne_eqb l k lk) refl

  above-on : (y : ℕ) → y ≢ n → g2.above y k ≡ cond (goes g k c (look2 n).entries y) n (g.above y k)
  above-on y h = rw (ne_eqb y n h, eqb-self k) refl

  above-goes : (y : ℕ) → y ≢ n → goes g k c (look2 n).entries y ≡ true → g2.above y k ≡ n
  above-goes y h w = above-on y h ∙ (rw w refl)

  above-stays : (y : ℕ) → y ≢ n → goes g k c (look2 n).entries y ≡ false → g2.above y k ≡ g.above y k
  above-stays y h w = above-on y h ∙ (rw w refl)

  goes-low : (y : ℕ) → goes g k c (look2 n).entries y ≡ true → (g.level y < k) × (g.above y k ≡ c)
  goes-low y w =
      let a = and_then _ _ w in
      let b = unless_then _ _ a.1 in
      (leb-false _ _ b.0, eqb-true _ _ (and_then _ _ b.1).0)

  goes-is : (y : ℕ) → g.inside y ≡ true → g.level y < k → g.above y k ≡ c → goes g k c (look2 n).entries y ≡ leb 1 (spans g (g.above y (k - 1)) (look2 n).entries)
  goes-is y i lt up = rw (i, lt-leb k (g.level y) lt, eq-eqb _ _ up) refl

  goes-not : (y : ℕ) → g.inside y ≡ true → g.level y < k → g.above y k ≢ c → goes g k c (look2 n).entries y ≡ false
  goes-not y i lt up = rw (i, lt-leb k (g.level y) lt, ne_eqb _ _ up) refl

  k-below : k < g.height
  k-below = let b = tree.shape.below c ci in omega arith

  goes-together : (y l : ℕ) → g.inside y ≡ true → g.level y ≤ l → l < k → goes g k c (look2 n).entries (g.above y l) ≡ goes g k c (look2 n).entries y
  goes-together y l i le lt =
      let kb = k-below in
      let h = tree.shape.higher y l i le (omega arith) in
      let hl = h.1 in
      let up = tree.shape.coherent y l k i le (omega arith) kb in
      let up1 = tree.shape.coherent y l (k - 1) i le (omega arith) (omega arith) in
      on_bool (eqb (g.above y k) c)
      (λ q. let e = eqb-true _ _ q in
      goes-is (g.above y l) h.0 (omega arith) (up ∙ e) ∙ ap (λ (w : ℕ). leb 1 (spans g w (look2 n).entries)) up1 ∙ sym (goes-is y i (omega arith) e))
      (λ q. let e = eqb-false _ _ q in
      goes-not (g.above y l) h.0 (omega arith) (λ w. e (sym up ∙ w)) ∙ sym (goes-not y i (omega arith) e))

  at-cases : (r : ℕ) → g.placed r ≡ true → (g2.at r ≡ g.at r) ⊎ ((k ≡ 0) × (g.at r ≡ c) × (g.carried r ≡ false) × (g2.at r ≡ n))
  at-cases r p = on_bool (settles g c (look2 n).rows r)
      (λ q.
      let a = and_then _ _ q in
      let b = unless_then _ _ a.1 in
      let e = eqb-true _ _ (and_then _ _ b.1).0 in
      let z = tree.shape.settled r p b.0 in
      inr (sym cl ∙ ap g.level (sym e) ∙ z, e, b.0, rw q refl))
      (λ q. inl (rw q refl))

  pub divided-made : Divided g g2 k c n
  divided-made = record {
    c_inside = ci;
    c_level = cl;
    fresh = fresh;
    new_inside = rw (eqb-self n) refl;
    new_level = rw (eqb-self n) refl;
    new_itself = rw (eqb-self n, eqb-self k) refl;
    new_above = λ l lt. let ne : l ≢ k = (λ w. absurd (omega arith)) in rw (eqb-self n, ne_eqb l k ne) refl;
    height = refl;
    inside = inside-old;
    level = level-old;
    above = λ y l i le. on_bool (eqb l k)
        (λ q. let lk = eqb-true _ _ q in
        on_bool (goes g k c (look2 n).entries y)
        (λ w. let gl = goes-low y w in inr (lk, ap (g.above y) lk ∙ gl.1, ap (g2.above y) lk ∙ above-goes y (not-n y i) w, (let a = gl.0 in omega arith)))
        (λ w. inl (ap (g2.above y) lk ∙ above-stays y (not-n y i) w ∙ ap (g.above y) (sym lk))))
        (λ q. inl (above-off y l (not-n y i) (eqb-false _ _ q)));
    together = λ y l i le lt.
        let h = tree.shape.higher y l i le (let b = k-below in omega arith) in
        let t = goes-together y l i le lt in
        on_bool (goes g k c (look2 n).entries y)
        (λ w. above-goes (g.above y l) (not-n _ h.0) (t ∙ w) ∙ sym (above-goes y (not-n y i) w))
        (λ w. above-stays (g.above y l) (not-n _ h.0) (t ∙ w) ∙ tree.shape.coherent y l k i le (omega arith) k-below ∙ sym (above-stays y (not-n y i) w));
    placed = λ r. refl;
    carried = λ r. refl;
    at = at-cases;
  }

  -- the right part of the rows stands at n
  pub at_right-made : (r : ℕ) → g.placed r ≡ true → g.at r ≡ c → g.carried r ≡ false → same (g2.at r) n ≡ times r (look2 n).rows
  at_right-made r p e f =
      let cn = not-n c ci in
      let z : g.level c ≡ 0 = ap g.level (sym e) ∙ tree.shape.settled r p f in
      let lies1 : times r (look c).rows ≡ same (g.at r) c = tree.leaves c ci z r ∙ (rw (p, f) refl) in
      let one = same_is (g.at r) c e in
      let sum = rows r in
      let is : settles g c (look2 n).rows r ≡ leb 1 (times r (look2 n).rows) = rw (p, f, eq-eqb _ _ e) refl in
      on_bool (leb 1 (times r (look2 n).rows))
      (λ q. let le = leb-true _ _ q in
      let at2 : g2.at r ≡ n = rw (is, q) refl in
      let s = same_is (g2.at r) n at2 in
      omega arith)
      (λ q. let gt = leb-false _ _ q in
      let at2 : g2.at r ≡ c = (rw (is, q) e) in
      let s : same (g2.at r) n ≡ 0 = ap (λ (w : ℕ). same w n) at2 ∙ same_not c n cn in
      omega arith)

  pub above_right-made : (y j : ℕ) → g.inside y ≡ true → k ≡ j + 1 → g.level y ≤ j → g.above y k ≡ c → same (g2.above y k) n ≡ total (λ e. times (g.above y j) (g.group e.child)) (look2 n).entries
  above_right-made y j i kj le up =
      let cn = not-n c ci in
      let kb = k-below in
      let dir = tree.dirs c j ci (cl ∙ kj) in
      let h = tree.shape.higher y j i le (omega arith) in
      let all = dir.each (g.above y j) h.0 h.1 in
      let up1 : g.above (g.above y j) (j + 1) ≡ c = tree.shape.coherent y j (j + 1) i le (omega arith) (omega arith) ∙ ap (g.above y) (sym kj) ∙ up in
      let one = same_is _ _ up1 in
      let sum = entries (λ e. times (g.above y j) (g.group e.child)) in
      let is0 = goes-is y i (omega arith) up in
      let kj1 : k - 1 ≡ j = omega arith in
      let is : goes g k c (look2 n).entries y ≡ leb 1 (spans g (g.above y j) (look2 n).entries) = is0 ∙ ap (λ (w : ℕ). leb 1 (spans g (g.above y w) (look2 n).entries)) kj1 in
      on_bool (leb 1 (spans g (g.above y j) (look2 n).entries))
      (λ q. let lq = leb-true _ _ q in
      let s = same_is (g2.above y k) n (above-goes y (not-n y i) (is ∙ q)) in
      omega arith)
      (λ q. let gt = leb-false _ _ q in
      let s : same (g2.above y k) n ≡ 0 = ap (λ (w : ℕ). same w n) (above-stays y (not-n y i) (is ∙ q) ∙ up) ∙ same_not c n cn in
      omega arith)

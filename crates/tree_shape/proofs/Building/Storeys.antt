-- A level more over a shape whose blocks are each alone in its group
use Rattle.std.proofs.{Common.{◌≡◌, ◌≢◌, ℕ, ◌+◌, ◌<◌, ◌≤◌, true, false, cond, eqb, leb, List, [], ◌∷◌, refl, sym, ap, ◌∙◌, subst, arith}, lemmas.Bool.{eqb-true, eqb-false, ne_eqb, leb-false, le-leb, leb-true}}
use Rattle.dc_node.specs.declared.entry.Entry.{Entry}
use Rattle.list_words.specs.Counts.{Each, same, times, total}
use Rattle.list_words.proofs.{Each.each-map, Times.{same_is, same_not}, Totals.total-has, Truth.{on_bool, eqb-self}}
use Rattle.tree_shape.specs.{Shape.{Node, Shape, ShapeOk, Table}, Trees.{EntryOk, TreeOk}, Walks.{IsTail, beneath, noted_of}}
use Rattle.tree_shape.proofs.{Cutting.Divisions.{sums-low, sums-out}, Cutting.Relations.all_below, Reading.Queries.reach-low, Whole.Groups.times-all_below, Whole.Trees.spans-same}

-- the first of the list at which k is not 0
abbrev pub pick : (ℕ → ℕ) → List ℕ → ℕ
pick k [] = 0
pick k (x ∷ xs) = cond (leb 1 (k x)) x (pick k xs)

pick-here : (k : ℕ → ℕ) (x : ℕ) (xs : List ℕ) → leb 1 (k x) ≡ true → pick k (x ∷ xs) ≡ x
pick-here k x xs q = rw q refl

pick-past : (k : ℕ → ℕ) (x : ℕ) (xs : List ℕ) → leb 1 (k x) ≡ false → pick k (x ∷ xs) ≡ pick k xs
pick-past k x xs q = rw q refl

pub pick-in : (k : ℕ → ℕ) (xs : List ℕ) → 1 ≤ total k xs → 1 ≤ times (pick k xs) xs
pick-in k [] h = absurd (omega arith)
pick-in k (x ∷ xs) h = on_bool (leb 1 (k x))
    (λ q. let o = same_is x x refl in subst (λ (w : ℕ). 1 ≤ times w (x ∷ xs)) (sym (pick-here k x xs q)) (omega arith))
    (λ q. let z = leb-false _ _ q in let ih = pick-in k xs (omega arith) in subst (λ (w : ℕ). 1 ≤ times w (x ∷ xs)) (sym (pick-past k x xs q)) (omega arith))

-- where it is not 0 once in all, it is the one of the list at which it is 1
pub pick-is : (k : ℕ → ℕ) (xs : List ℕ) (b : ℕ) → total k xs ≡ 1 → ((y : ℕ) → times y xs ≤ 1) → 1 ≤ times b xs → k b ≡ same (pick k xs) b
pick-is k [] b one once h = absurd (omega arith)
pick-is k (x ∷ xs) b one once h = on_bool (leb 1 (k x))
    (λ q. let le = leb-true _ _ q in rw (pick-here k x xs q) (on_bool (eqb b x)
    (λ w. let e = eqb-true _ _ w in let s = same_is x b (sym e) in let kb = ap k e in omega arith)
    (λ w. let ne = eqb-false _ _ w in
    let s = same_not x b (λ z. ne (sym z)) in
    let z = same_not b x ne in
    let t = total-has k b xs (omega arith) in
    omega arith)))
    (λ q. let gt = leb-false _ _ q in
    let i = pick-in k xs (omega arith) in
    rw (pick-past k x xs q) (on_bool (eqb b x)
    (λ w. let e = eqb-true _ _ w in
    let kb = ap k e in
    let o = once x in
    let xx = same_is x x refl in
    let ne : pick k xs ≢ b = (λ z. let a : times (pick k xs) xs ≡ times x xs = ap (λ y. times y xs) (z ∙ e) in absurd (omega arith)) in
    let s = same_not (pick k xs) b ne in
    omega arith)
    (λ w. let z = same_not b x (eqb-false _ _ w) in pick-is k xs b (omega arith) (λ y. let o = once y in omega arith) (omega arith))))

-- how many entries of a block lead to a cell
abbrev pub leads : (ℕ → Node) → ℕ → ℕ → ℕ
leads look y b = total (λ e. same y e.child) (look b).entries

alone-leads : (y : ℕ) (es : List Entry) → total (λ e. times y (e.child ∷ [])) es ≡ total (λ e. same y e.child) es
alone-leads y [] = refl
alone-leads y (e ∷ es) = omega (arith, alone-leads y es)

-- the shape with the blocks `up` on a level above
abbrev pub storey : Shape → (ℕ → Node) → ℕ → List ℕ → Shape
storey g look l up = record {
  height = l + 2;
  inside = λ y. cond (leb 1 (times y up)) true (g.inside y);
  level = λ y. cond (leb 1 (times y up)) (l + 1) (g.level y);
  above = λ y m. cond (leb 1 (times y up)) y (cond (eqb m (l + 1)) (pick (leads look (g.above y l)) up) (g.above y m));
  head = λ y. y;
  group = λ y. y ∷ [];
  below = λ y. cond (leb 1 (times y up)) (all_below g (look y).entries) (g.below y);
  placed = g.placed;
  carried = g.carried;
  at = g.at;
}

-- what the new level is put on, and that each block of the level below has one entry in it
pub record IsUnder (g : Shape) (look look2 : ℕ → Node) (table : Table) (l : ℕ) (up : List ℕ) : Type 0 where
  pub tree : TreeOk g look table
  pub height : g.height ≡ l + 1
  pub groups : (y : ℕ) → g.group y ≡ y ∷ []
  pub kept : (y : ℕ) → g.inside y ≡ true → look2 y ≡ look y
  pub fresh : (y : ℕ) → 1 ≤ times y up → g.inside y ≡ false
  pub once : (y : ℕ) → times y up ≤ 1
  pub entries : (b : ℕ) → 1 ≤ times b up → Each (EntryOk g look table l) (look2 b).entries
  pub each : (y : ℕ) → g.inside y ≡ true → g.level y ≡ l → total (leads look2 y) up ≡ 1

module _ (g : Shape) (look look2 : ℕ → Node) (table : Table) (l : ℕ) (up : List ℕ) (d : IsUnder g look look2 table l up) where
  abbrev g2 : Shape
  g2 = storey g look2 l up

  is-new : (y : ℕ) → 1 ≤ times y up → leb 1 (times y up) ≡ true
  is-new y n = le-leb _ _ n

  not-new : (y : ℕ) → g.inside y ≡ true → leb 1 (times y up) ≡ false
  not-new y i = on_bool (leb 1 (times y up)) (λ q. let z : true ≡ false = sym i ∙ d.fresh y (leb-true _ _ q) in cc) (λ q. q)

  pub sorts : {P : Type 0} → (y : ℕ) → g2.inside y ≡ true → (1 ≤ times y up → P) → (g.inside y ≡ true → P) → P
  sorts y i a b = on_bool (leb 1 (times y up)) (λ q. a (leb-true _ _ q)) (λ q. b (rw q at i))

  pub inside-new : (y : ℕ) → 1 ≤ times y up → g2.inside y ≡ true
  inside-new y n = rw (is-new y n) refl

  pub level-new : (y : ℕ) → 1 ≤ times y up → g2.level y ≡ l + 1
  level-new y n = rw (is-new y n) refl

  above-new : (y m : ℕ) → 1 ≤ times y up → g2.above y m ≡ y
  above-new y m n = rw (is-new y n) refl

  pub below-new : (y : ℕ) → 1 ≤ times y up → g2.below y ≡ all_below g (look2 y).entries
  below-new y n = rw (is-new y n) refl

  pub inside-old : (y : ℕ) → g.inside y ≡ true → g2.inside y ≡ true
  inside-old y i = rw (not-new y i) i

  pub level-old : (y : ℕ) → g.inside y ≡ true → g2.level y ≡ g.level y
  level-old y i = rw (not-new y i) refl

  below-old : (y : ℕ) → g.inside y ≡ true → g2.below y ≡ g.below y
  below-old y i = rw (not-new y i) refl

  above-low : (y m : ℕ) → g.inside y ≡ true → m ≤ l → g2.above y m ≡ g.above y m
  above-low y m i le = rw (not-new y i, ne_eqb m (l + 1) (omega arith)) refl

  above-top : (y : ℕ) → g.inside y ≡ true → g2.above y (l + 1) ≡ pick (leads look2 (g.above y l)) up
  above-top y i = rw (not-new y i, eqb-self (l + 1)) refl

  pub low : (y : ℕ) → g.inside y ≡ true → g.level y ≤ l
  low y i = let b = d.tree.shape.below y i in let h = d.height in omega arith

  -- one entry leads to the block on level l over y
  led : (y : ℕ) → g.inside y ≡ true → total (leads look2 (g.above y l)) up ≡ 1
  led y i = let h = d.height in let u = d.tree.shape.higher y l i (low y i) (omega arith) in d.each (g.above y l) u.0 u.1

  parent-in : (y : ℕ) → g.inside y ≡ true → 1 ≤ times (pick (leads look2 (g.above y l)) up) up
  parent-in y i = let e = led y i in pick-in (leads look2 (g.above y l)) up (omega arith)

  higher : (y m : ℕ) → g2.inside y ≡ true → g2.level y ≤ m → m < l + 2 → (g2.inside (g2.above y m) ≡ true) × (g2.level (g2.above y m) ≡ m)
  higher y m i le lt = sorts y i
      (λ n. let a = level-new y n in
      let e : m ≡ l + 1 = omega arith in
      (ap g2.inside (above-new y m n) ∙ inside-new y n, ap g2.level (above-new y m n) ∙ a ∙ sym e))
      (λ o. let a = level-old y o in on_bool (eqb m (l + 1))
      (λ q. let e = eqb-true _ _ q in
      let p = parent-in y o in
      let u : g2.above y m ≡ pick (leads look2 (g.above y l)) up = ap (g2.above y) e ∙ above-top y o in
      (ap g2.inside u ∙ inside-new _ p, ap g2.level u ∙ level-new _ p ∙ sym e))
      (λ q. let ne = eqb-false _ _ q in
      let hh = d.height in
      let h = d.tree.shape.higher y m o (omega arith) (omega arith) in
      let u = above-low y m o (omega arith) in
      (ap g2.inside u ∙ inside-old _ h.0, ap g2.level u ∙ level-old _ h.0 ∙ h.1)))

  coherent : (y m n : ℕ) → g2.inside y ≡ true → g2.level y ≤ m → m ≤ n → n < l + 2 → g2.above (g2.above y m) n ≡ g2.above y n
  coherent y m n i le mn lt = sorts y i
      (λ w. ap (λ (z : ℕ). g2.above z n) (above-new y m w))
      (λ o. let a = level-old y o in on_bool (eqb m (l + 1))
      (λ q. let e = eqb-true _ _ q in
      let en : n ≡ m = omega arith in
      let p = parent-in y o in
      let u : g2.above y m ≡ pick (leads look2 (g.above y l)) up = ap (g2.above y) e ∙ above-top y o in
      ap (λ (z : ℕ). g2.above z n) u ∙ above-new _ n p ∙ sym u ∙ ap (g2.above y) (sym en))
      (λ q. let ne = eqb-false _ _ q in
      let hh = d.height in
      let ml : m ≤ l = omega arith in
      let h = d.tree.shape.higher y m o (omega arith) (omega arith) in
      ap (λ (z : ℕ). g2.above z n) (above-low y m o ml) ∙ on_bool (eqb n (l + 1))
      (λ z. let e = eqb-true _ _ z in
      ap (g2.above (g.above y m)) e ∙ above-top _ h.0
      ∙ ap (λ (w : ℕ). pick (leads look2 w) up) (d.tree.shape.coherent y m l o (omega arith) ml (omega arith))
      ∙ sym (above-top y o) ∙ ap (g2.above y) (sym e))
      (λ z. let nz = eqb-false _ _ z in
      above-low _ n h.0 (omega arith) ∙ d.tree.shape.coherent y m n o (omega arith) mn (omega arith) ∙ sym (above-low y n o (omega arith)))))

  shape-storey : ShapeOk g2
  shape-storey = record {
    itself = λ y i. sorts y i
        (λ n. above-new y (g2.level y) n)
        (λ o. ap (g2.above y) (level-old y o) ∙ above-low y (g.level y) o (low y o) ∙ d.tree.shape.itself y o);
    below = λ y i. sorts y i
        (λ n. let a = level-new y n in omega arith)
        (λ o. let a = level-old y o in let b = low y o in omega arith);
    higher = higher;
    coherent = coherent;
    stands = λ r p. inside-old _ (d.tree.shape.stands r p);
    settled = λ r p f. level-old _ (d.tree.shape.stands r p) ∙ d.tree.shape.settled r p f;
  }

  -- entries below the new level

  child-in : (k : ℕ) (e : Entry) → EntryOk g look table k e → (g.inside e.child ≡ true) × (g.level e.child ≡ k)
  child-in k e w = w.group.cells e.child (rw (d.groups e.child) (omega (arith, same_is e.child e.child refl)))

  stamp-of : (k : ℕ) (e : Entry) → EntryOk g look table k e → (look e.child).stamp ≡ e.stamp
  stamp-of k e w =
      let ws = w.group.walks in
      let all : e.child ∷ ws.0 ≡ e.child ∷ [] = sym ws.1 ∙ d.groups e.child in
      let nil : ws.0 ≡ [] = cc in
      subst (λ (zs : List ℕ). IsTail look e.stamp e.child zs) nil ws.2

  beneath-old : (k : ℕ) (e : Entry) (r : ℕ) → k ≤ l → beneath g2 (noted_of g2 k e) r ≡ beneath g (noted_of g k e) r
  beneath-old k e r le = on_bool (g.placed r)
      (λ p. let i = d.tree.shape.stands r p in
      rw (p, level-old (g.at r) i, above-low (g.at r) k i le, d.groups e.child) refl)
      (λ p. rw p refl)

  entry-old : (k : ℕ) (e : Entry) → k ≤ l → EntryOk g look table k e → EntryOk g2 look2 table k e
  entry-old k e le w =
      let c = child-in k e w in
      record {
        group = record {
          walks = ([], refl, ap (λ (x : Node). x.stamp) (d.kept e.child c.0) ∙ stamp-of k e w);
          low = omega arith;
          cells = λ y on. on_bool (eqb y e.child)
              (λ q. let is = eqb-true _ _ q in rw is (inside-old e.child c.0, level-old e.child c.0 ∙ c.1))
              (λ q. let o = same_not y e.child (eqb-false _ _ q) in absurd (omega arith));
        };
        members = λ y i lv. omega arith;
        rows = λ r. ap (times r) (below-old e.child c.0) ∙ w.rows r ∙ sym (beneath-old k e r le);
        summary = rw (below-old e.child c.0) w.summary;
      }

  pub tree-storey : TreeOk g2 look2 table
  tree-storey = record {
    shape = shape-storey;
    heads = λ y i. i;
    leaves = λ b i lv r. sorts b i
        (λ n. let a = level-new b n in absurd (omega arith))
        (λ o. ap (λ (x : Node). times r x.rows) (d.kept b o) ∙ d.tree.leaves b o (sym (level-old b o) ∙ lv) r);
    dirs = λ b m i lv. sorts b i
        (λ n. let a = level-new b n in
        let e : m ≡ l = omega arith in
        rw e (record {
          entries = each-map (EntryOk g look table l) (EntryOk g2 look2 table l) (look2 b).entries (λ x w. entry-old l x (omega arith) w) (d.entries b n);
          each = λ y yi yl. sorts y yi
              (λ yn. let c = level-new y yn in absurd (omega arith))
              (λ yo. let at : g.level y ≡ l = sym (level-old y yo) ∙ yl in
              let self : g.above y l ≡ y = ap (g.above y) (sym at) ∙ d.tree.shape.itself y yo in
              alone-leads y (look2 b).entries ∙ pick-is (leads look2 y) up b (d.each y yo at) d.once n
              ∙ sym (ap (λ (w : ℕ). same w b) (above-top y yo ∙ ap (λ (w : ℕ). pick (leads look2 w) up) self)));
        }))
        (λ o. let a = level-old b o in
        let dir = d.tree.dirs b m o (sym a ∙ lv) in
        let lo = low b o in
        let is : (look2 b).entries ≡ (look b).entries = ap (λ (x : Node). x.entries) (d.kept b o) in
        record {
          entries = rw is (each-map (EntryOk g look table m) (EntryOk g2 look2 table m) (look b).entries (λ x w. entry-old m x (omega arith) w) dir.entries);
          each = λ y yi yl. sorts y yi
              (λ yn. let c = level-new y yn in absurd (omega arith))
              (λ yo. rw is (spans-same g g2 y (look b).entries (λ h. sym (d.groups h)) ∙ dir.each y yo (sym (level-old y yo) ∙ yl)
              ∙ sym (ap (λ (w : ℕ). same w b) (above-low y (m + 1) yo (omega arith)))));
        });
  }

  -- the rows beneath a new block
  pub beneath-new : (e : Entry) (r : ℕ) → 1 ≤ times e.child up → times r (g2.below e.child) ≡ beneath g2 (noted_of g2 (l + 1) e) r
  beneath-new e r n =
      let es = (look2 e.child).entries in
      let all = times-all_below g r es in
      ap (times r) (below-new e.child n) ∙ on_bool (g.placed r)
      (λ p. let i = d.tree.shape.stands r p in
      let y = g.above (g.at r) l in
      let a = sums-low g look table l r es (d.entries e.child n) p (low (g.at r) i) in
      let b = spans-same g g2 y es (λ h. sym (d.groups h)) in
      let c = alone-leads y es in
      let is = pick-is (leads look2 y) up e.child (led (g.at r) i) d.once n in
      let top = ap (λ (w : ℕ). same w e.child) (above-top (g.at r) i) in
      let at = level-old (g.at r) i in
      let lo = low (g.at r) i in
      let reach = reach-low g2 (noted_of g2 (l + 1) e) (g.at r) (omega arith) in
      rw p (omega arith))
      (λ p. let a = sums-out g look table l r es (d.entries e.child n) p in rw p (omega arith))

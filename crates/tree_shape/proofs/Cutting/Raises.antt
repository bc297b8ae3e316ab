-- A new root
use Rattle.std.proofs.{Common.{◌≡◌, ◌≢◌, ℕ, ◌+◌, ◌-◌, ◌<◌, ◌≤◌, Bool, true, false, cond, eqb, leb, List, [], ◌∷◌, refl, sym, ap, ◌∙◌, subst, arith}, lemmas.Bool.{eqb-true, eqb-false, leb-true, leb-false}}
use Rattle.dc_node.specs.declared.entry.Entry.{Entry}
use Rattle.list_words.specs.Counts.{Each, same, times}
use Rattle.list_words.proofs.{Times.{same_is, same_not}, Truth.on_bool}
use Rattle.tree_shape.specs.{Queries.{QueryOk, fits}, Shape.{Node, Shape, ShapeOk, Table}, Trees.{DirOk, EntryOk, TreeOk}, Walks.{AreNoted, IsNoted, IsTail, Noted, beneath, noted_of, pending, reach}}
use Rattle.tree_shape.proofs.{Cutting.Relations.{IsSumOf, Raised}, Reading.Queries.{reach-low, reach-high, not_on, apart}, Reading.Visits.spans, Whole.Sums.sum-same}

tail-off : (look look2 : ℕ → Node) (m s y : ℕ) (zs : List ℕ) → ((x : ℕ) → x ≢ m → (look2 x).stamp ≡ (look x).stamp) → ((x : ℕ) → x ≢ m → (look2 x).right ≡ (look x).right) → y ≢ m → times m zs ≡ 0 → IsTail look s y zs → IsTail look2 s y zs
tail-off look look2 m s y [] st ri ne o h = st y ne ∙ h
tail-off look look2 m s y (z ∷ zs) st ri ne o h =
    let zm : z ≢ m = λ q. absurd (let w : same m z ≡ 1 = same_is m z (sym q) in omega arith) in
    let on : times m zs ≡ 0 = omega arith in
    ((λ q. h.0 (sym (st y ne) ∙ q)), ri y ne ∙ h.1, tail-off look look2 m s z zs st ri zm on h.2)

module _ (g g2 : Shape) (look look2 : ℕ → Node) (table : Table) (h gate m : ℕ) (root new : Entry) (t : TreeOk g look table) (d : Raised g g2 look look2 h gate m root new) where
  old : (y : ℕ) → g.inside y ≡ true → y ≢ m
  old y i = apart g y m i d.fresh

  was : (y : ℕ) → y ≢ m → g2.inside y ≡ true → g.inside y ≡ true
  was y ne i = sym (d.inside y ne) ∙ i

  gm : gate ≢ m
  gm = old gate d.gate_in

  low : (y : ℕ) → g.inside y ≡ true → y ≢ gate → g.level y < h
  low y i ne = let b = t.shape.below y i in let hh = d.height in
      on_bool (eqb (g.level y) h)
      (λ q. absurd (ne (d.only y i (eqb-true _ _ q))))
      (λ q. let n = eqb-false _ _ q in omega arith)

  not-gate : (y : ℕ) → g.level y < h → y ≢ gate
  not-gate y lt e = let a : g.level y ≡ g.level gate = ap g.level e in let b = d.gate_level in absurd (omega arith)

  -- the three sorts of blocks
  sorts : {P : Type 0} → (y : ℕ) → g2.inside y ≡ true → (y ≡ m → P) → (y ≡ gate → P) → (g.inside y ≡ true → g.level y < h → y ≢ m → y ≢ gate → P) → P
  sorts y i a b c = on_bool (eqb y m)
      (λ q. a (eqb-true _ _ q))
      (λ q. let ne = eqb-false _ _ q in on_bool (eqb y gate)
      (λ q2. b (eqb-true _ _ q2))
      (λ q2. let ng = eqb-false _ _ q2 in let i1 = was y ne i in c i1 (low y i1 ng) ne ng))

  -- the three sorts of levels
  levels : {P : Type 0} → (l : ℕ) → l < g2.height → (l < h → P) → (l ≡ h → P) → (l ≡ h + 1 → P) → P
  levels l lt a b c = let hh = d.height2 in on_bool (leb (l + 1) h)
      (λ q. let z = leb-true _ _ q in a (omega arith))
      (λ q. let z = leb-false _ _ q in on_bool (eqb l h)
      (λ q2. b (eqb-true _ _ q2))
      (λ q2. let ne = eqb-false _ _ q2 in c (omega arith)))

  up-low : (y l : ℕ) → g.inside y ≡ true → g.level y ≤ l → l < h → (g.inside (g.above y l) ≡ true) × (g.level (g.above y l) ≡ l)
  up-low y l i le lt = let hh = d.height in t.shape.higher y l i le (omega arith)

  shape-higher : (y l : ℕ) → g2.inside y ≡ true → g2.level y ≤ l → l < g2.height → (g2.inside (g2.above y l) ≡ true) × (g2.level (g2.above y l) ≡ l)
  shape-higher y l i le lt =
      let hh = d.height2 in
      let ml = d.m_level in
      let gl = d.gate_level2 in
      levels l lt
      (λ a. sorts y i
      (λ e. let z : g2.level m ≤ l = rw e at le in absurd (omega arith))
      (λ e. let z : g2.level gate ≤ l = rw e at le in absurd (omega arith))
      (λ i1 lo ne ng. let e = d.level y ne ng in let u = up-low y l i1 (omega arith) a in
      let um = old _ u.0 in let ug = not-gate (g.above y l) (let z = u.1 in omega arith) in
      rw (d.above y l ne a) (d.inside _ um ∙ u.0, d.level _ um ug ∙ u.1)))
      (λ a. let ng : y ≢ gate = (λ e. let z : g2.level gate ≤ l = rw e at le in absurd (omega arith)) in
      rw (a, d.above_h y ng) (d.m_in, d.m_level))
      (λ a. rw (a, d.above_top y) (d.inside gate gm ∙ d.gate_in, d.gate_level2))

  shape-coherent : (y l k : ℕ) → g2.inside y ≡ true → g2.level y ≤ l → l ≤ k → k < g2.height → g2.above (g2.above y l) k ≡ g2.above y k
  shape-coherent y l k i le lk lt =
      let hh = d.height in
      let ml = d.m_level in
      let gl = d.gate_level2 in
      levels k lt
      (λ a. sorts y i
      (λ e. let z : g2.level m ≤ l = rw e at le in absurd (omega arith))
      (λ e. let z : g2.level gate ≤ l = rw e at le in absurd (omega arith))
      (λ i1 lo ne ng. let e = d.level y ne ng in let u = up-low y l i1 (omega arith) (omega arith) in
      rw (d.above y l ne (omega arith), d.above y k ne a) (d.above (g.above y l) k (old _ u.0) a ∙ t.shape.coherent y l k i1 (omega arith) lk (omega arith))))
      (λ a.
      let ng : y ≢ gate = (λ e. let z : g2.level gate ≤ l = rw e at le in absurd (omega arith)) in
      let s = shape-higher y l i le (omega arith) in
      let s1 = s.1 in
      let ug : g2.above y l ≢ gate = (λ e. let z : g2.level (g2.above y l) ≡ g2.level gate = ap g2.level e in absurd (omega arith)) in
      rw a (d.above_h (g2.above y l) ug ∙ sym (d.above_h y ng)))
      (λ a. rw a (d.above_top (g2.above y l) ∙ sym (d.above_top y)))

  shape-raised : ShapeOk g2
  shape-raised =
      let hh = d.height2 in
      let ml = d.m_level in
      let gl = d.gate_level2 in
      record {
        itself = λ y i. sorts y i
            (λ e. rw (e, d.m_level) (d.above_h m (λ q. gm (sym q))))
            (λ e. rw (e, d.gate_level2) (d.above_top gate))
            (λ i1 lo ne ng. rw (d.level y ne ng) (d.above y (g.level y) ne lo ∙ t.shape.itself y i1));
        below = λ y i. sorts y i
            (λ e. rw e (omega arith))
            (λ e. rw e (omega arith))
            (λ i1 lo ne ng. let e = d.level y ne ng in omega arith);
        higher = shape-higher;
        coherent = shape-coherent;
        stands = λ r p. let s = t.shape.stands r (sym (d.placed r) ∙ p) in rw (d.at r) (d.inside _ (old _ s) ∙ s);
        settled = λ r p f. let p1 = sym (d.placed r) ∙ p in let s = t.shape.stands r p1 in
            rw (d.at r) (d.level _ (old _ s) (d.free r p1) ∙ t.shape.settled r p1 (sym (d.carried r) ∙ f));
      }

  -- below the gate's old level nothing has changed
  reach-raised : (p : Noted) (y : ℕ) → p.level < h → g.inside y ≡ true → y ≢ gate → reach g2 p y ≡ reach g p y
  reach-raised p y lt i ng =
      let ne = old y i in
      let e = d.level y ne ng in
      on_bool (leb (g.level y) p.level)
      (λ q. let le = leb-true _ _ q in reach-low g2 p y (omega arith) ∙ ap (λ (w : ℕ). times w p.walk) (d.above y p.level ne lt) ∙ sym (reach-low g p y le))
      (λ q. let gt = leb-false _ _ q in reach-high g2 p y (omega arith) ∙ sym (reach-high g p y gt))

  noted-raised : (p : Noted) → p.level < h → IsNoted g look p → IsNoted g2 look2 p
  noted-raised p lt w =
      let hh = d.height2 in
      let o = not_on g look p m w d.fresh in
      let zs = w.walks.0 in
      let o2 : times m (p.cell ∷ zs) ≡ 0 = rw w.walks.1 at o in
      let cm : p.cell ≢ m = λ q. absurd (let z : same m p.cell ≡ 1 = same_is m p.cell (sym q) in omega arith) in
      let on : times m zs ≡ 0 = omega arith in
      record {
        walks = (zs, w.walks.1, tail-off look look2 m p.stamp p.cell zs d.stamp d.right cm on w.walks.2);
        low = omega arith;
        cells = λ y z. let c = w.cells y z in let c1 = c.1 in let ne = old y c.0 in (d.inside y ne ∙ c.0, d.level y ne (not-gate y (omega arith)) ∙ c.1);
      }

  child-in : (b l : ℕ) (e : Entry) → EntryOk g look table l e → (g.inside e.child ≡ true) × (g.level e.child ≡ l)
  child-in b l e w =
      let u = w.group.walks.1 in
      w.group.cells e.child (rw u (omega (arith, same_is e.child e.child refl)))

  entry-raised : (b b2 l : ℕ) (e : Entry) → l < h → EntryOk g look table l e → EntryOk g2 look2 table l e
  entry-raised b b2 l e lt w =
      let ne = old e.child (child-in b l e w).0 in
      let ml = d.m_level in
      let gl = d.gate_level2 in
      record {
        group = rw (d.group e.child ne) (noted-raised (noted_of g l e) lt w.group);
        members = λ y i lv. sorts y i
            (λ q. let z : h ≡ l = sym d.m_level ∙ ap g2.level (sym q) ∙ lv in absurd (omega arith))
            (λ q. let z : h + 1 ≡ l = sym d.gate_level2 ∙ ap g2.level (sym q) ∙ lv in absurd (omega arith))
            (λ i1 lo nm ng. rw (d.group e.child ne, d.head y nm) (w.members y i1 (sym (d.level y nm ng) ∙ lv)));
        rows = λ r. rw (d.below e.child ne, d.group e.child ne, d.at r) (w.rows r ∙ on_bool (g.placed r)
            (λ p. rw (d.placed r, p) (sym (reach-raised (noted_of g l e) (g.at r) lt (t.shape.stands r p) (d.free r p))))
            (λ p. rw (d.placed r, p) refl));
        summary = subst (λ (ns : List ℕ). IsSumOf table ns e) (sym (d.below e.child ne)) w.summary;
      }

  entries-raised : (b l : ℕ) (es : List Entry) → l < h → Each (EntryOk g look table l) es → Each (EntryOk g2 look2 table l) es
  entries-raised b l [] lt w = tt
  entries-raised b l (e ∷ es) lt w = (entry-raised b b l e lt w.0, entries-raised b l es lt w.1)

  spans-raised : (b l y : ℕ) (es : List Entry) → Each (EntryOk g look table l) es → spans g2 y es ≡ spans g y es
  spans-raised b l y [] w = refl
  spans-raised b l y (e ∷ es) w = let a = ap (times y) (d.group e.child (old e.child (child-in b l e w.0).0)) in omega (arith, spans-raised b l y es w.1)

  top_dir : (l : ℕ) → h ≡ l + 1 → DirOk g look table gate l
  top_dir l e = t.dirs gate l d.gate_in (d.gate_level ∙ e)

  root-entry : (l : ℕ) → h ≡ l + 1 → EntryOk g look table l root
  root-entry l e = (subst (Each (EntryOk g look table l)) d.gate_was (top_dir l e).entries).0

  -- the root's group has each block of its level once
  root-all : (l y : ℕ) → h ≡ l + 1 → g.inside y ≡ true → g.level y ≡ l → times y (g.group root.child) ≡ 1
  root-all l y e i lv =
      let hh = d.height in
      let u = t.shape.higher y (l + 1) i (omega arith) (omega arith) in
      let top : g.above y (l + 1) ≡ gate = d.only _ u.0 (u.1 ∙ sym e) in
      let s : spans g y (look gate).entries ≡ 1 = (top_dir l e).each y i lv ∙ same_is _ _ top in
      let s2 : spans g y (root ∷ []) ≡ spans g y (look gate).entries = ap (spans g y) (sym d.gate_was) in
      omega arith

  new-entry : (b : ℕ) → EntryOk g2 look2 table h new
  new-entry b =
      let hh = d.height2 in
      let hs = d.some in
      let el : h ≡ (h - 1) + 1 = omega arith in
      let re = root-entry (h - 1) el in
      let ml = d.m_level in
      let gl = d.gate_level2 in
      record {
        group = rw (d.new_child, d.group_m, d.new_stamp) (record {
          walks = ([], refl, refl);
          low = omega arith;
          cells = λ y z. on_bool (eqb y m)
              (λ q. let e = eqb-true _ _ q in rw e (d.m_in, d.m_level))
              (λ q. let o = same_not y m (eqb-false _ _ q) in absurd (omega arith));
        });
        members = λ y i lv. sorts y i
            (λ q. rw (q, d.new_child, d.group_m, d.head_m) (omega arith))
            (λ q. let z : h + 1 ≡ h = sym d.gate_level2 ∙ ap g2.level (sym q) ∙ lv in absurd (omega arith))
            (λ i1 lo nm ng. let z : g.level y ≡ h = sym (d.level y nm ng) ∙ lv in absurd (omega arith));
        rows = λ r. rw (d.new_child, d.group_m, d.below_m) (re.rows r ∙ on_bool (g.placed r)
            (λ p.
            let s = t.shape.stands r p in
            let lo = low (g.at r) s (d.free r p) in
            let lv = d.level (g.at r) (old _ s) (d.free r p) in
            let u = up-low (g.at r) (h - 1) s (omega arith) (omega arith) in
            let a : beneath g (noted_of g (h - 1) root) r ≡ 1 = rw p (reach-low g (noted_of g (h - 1) root) (g.at r) (omega arith) ∙ root-all (h - 1) (g.above (g.at r) (h - 1)) el u.0 u.1) in
            let one : Noted = record { cell = m; stamp = new.stamp; level = h; walk = m ∷ [] } in
            let c0 = reach-low g2 one (g.at r) (omega arith) in
            let c1 = same_is (g2.above (g.at r) h) m (d.above_h (g.at r) (d.free r p)) in
            let c : reach g2 one (g.at r) ≡ 1 = omega arith in
            a ∙ sym (rw (d.placed r, p, d.at r) c))
            (λ p. rw (d.placed r, p) refl));
        summary = sum-same table (g.below root.child) (g2.below new.child) root new d.new_agg d.new_set (ap g2.below d.new_child ∙ d.below_m) re.summary;
      }

  m-dir : (l : ℕ) → h ≡ l + 1 → DirOk g2 look2 table m l
  m-dir l e = record {
    entries = rw d.m_is (entry-raised gate m l root (omega arith) (root-entry l e), tt);
    each = λ y i lv. rw d.m_is (
        let ml = d.m_level in let gl = d.gate_level2 in
        sorts y i
        (λ q. let z : h ≡ l = sym d.m_level ∙ ap g2.level (sym q) ∙ lv in absurd (omega arith))
        (λ q. let z : h + 1 ≡ l = sym d.gate_level2 ∙ ap g2.level (sym q) ∙ lv in absurd (omega arith))
        (λ i1 lo nm ng.
        let a = root-all l y e i1 (sym (d.level y nm ng) ∙ lv) in
        let b = ap (times y) (d.group root.child (old _ (child-in gate l root (root-entry l e)).0)) in
        let c = same_is (g2.above y (l + 1)) m (ap (g2.above y) (sym e) ∙ d.above_h y ng) in
        omega arith));
  }

  gate-dir : (l : ℕ) → l ≡ h → DirOk g2 look2 table gate l
  gate-dir l e = record {
    entries = rw d.gate_is (rw e (new-entry gate), tt);
    each = λ y i lv. rw d.gate_is (
        sorts y i
        (λ q.
        let b : times m (g2.group new.child) ≡ same m m + 0 = rw (d.new_child, d.group_m) refl in
        let o = same_is m m refl in
        let c = same_is (g2.above m (l + 1)) gate (ap (λ (w : ℕ). g2.above m (w + 1)) e ∙ d.above_top m) in
        rw q (omega arith))
        (λ q. let z : h + 1 ≡ l = sym d.gate_level2 ∙ ap g2.level (sym q) ∙ lv in absurd (omega arith))
        (λ i1 lo nm ng. let z : g.level y ≡ l = sym (d.level y nm ng) ∙ lv in absurd (omega arith)));
  }

  old-dir : (b l : ℕ) → g.inside b ≡ true → g.level b < h → b ≢ m → b ≢ gate → g.level b ≡ l + 1 → DirOk g2 look2 table b l
  old-dir b l i lo nm ng bl =
      let dir = t.dirs b l i bl in
      record {
        entries = rw (d.entries b nm ng) (entries-raised b l (look b).entries (omega arith) dir.entries);
        each = λ y yi lv. rw (d.entries b nm ng) (
            let ml = d.m_level in let gl = d.gate_level2 in
            sorts y yi
            (λ q. let z : h ≡ l = sym d.m_level ∙ ap g2.level (sym q) ∙ lv in absurd (omega arith))
            (λ q. let z : h + 1 ≡ l = sym d.gate_level2 ∙ ap g2.level (sym q) ∙ lv in absurd (omega arith))
            (λ i1 lo1 nm1 ng1.
            spans-raised b l y (look b).entries dir.entries ∙ dir.each y i1 (sym (d.level y nm1 ng1) ∙ lv) ∙ ap (λ (w : ℕ). same w b) (sym (d.above y (l + 1) nm1 (omega arith)))));
      }

  pub tree-raised : TreeOk g2 look2 table
  tree-raised =
      let hs = d.some in
      let ml = d.m_level in
      let gl = d.gate_level2 in
      record {
        shape = shape-raised;
        heads = λ y i. sorts y i
            (λ q. rw (q, d.head_m) d.m_in)
            (λ q. rw (q, d.head gate gm) (let z = t.heads gate d.gate_in in d.inside _ (old _ z) ∙ z))
            (λ i1 lo nm ng. let z = t.heads y i1 in rw (d.head y nm) (d.inside _ (old _ z) ∙ z));
        leaves = λ b i lv r. sorts b i
            (λ q. let z : h ≡ 0 = sym d.m_level ∙ ap g2.level (sym q) ∙ lv in absurd (omega arith))
            (λ q. let z : h + 1 ≡ 0 = sym d.gate_level2 ∙ ap g2.level (sym q) ∙ lv in absurd (omega arith))
            (λ i1 lo nm ng. rw (d.rows b nm, d.placed r, d.carried r, d.at r) (t.leaves b i1 (sym (d.level b nm ng) ∙ lv) r));
        dirs = λ b l i lv. sorts b i
            (λ q. rw q (m-dir l (sym d.m_level ∙ ap g2.level (sym q) ∙ lv)))
            (λ q. let z : h + 1 ≡ l + 1 = sym d.gate_level2 ∙ ap g2.level (sym q) ∙ lv in rw q (gate-dir l (omega arith)))
            (λ i1 lo nm ng. old-dir b l i1 lo nm ng (sym (d.level b nm ng) ∙ lv));
      }

  -- a noted block on the gate's level goes up with it
  abbrev pub lifted : Noted → Noted
  lifted p = record { cell = p.cell; stamp = p.stamp; level = cond (eqb p.level h) (h + 1) p.level; walk = p.walk }

  abbrev pub all_lifted : List Noted → List Noted
  all_lifted [] = []
  all_lifted (p ∷ ps) = lifted p ∷ all_lifted ps

  lifted-low : (p : Noted) → eqb p.level h ≡ false → lifted p ≡ p
  lifted-low p q = rw q refl

  lifted-top : (p : Noted) → eqb p.level h ≡ true → lifted p ≡ record { cell = p.cell; stamp = p.stamp; level = h + 1; walk = p.walk }
  lifted-top p q = rw q refl

  not-above : (p : Noted) → IsNoted g look p → eqb p.level h ≡ false → p.level < h
  not-above p w q = let l = w.low in let hh = d.height in let ne = eqb-false _ _ q in omega arith

  -- on the gate's level the gate alone is reached
  reach-top : (p : Noted) (y : ℕ) → g.inside y ≡ true → p.level ≡ h → reach g p y ≡ times gate p.walk
  reach-top p y i e =
      let hh = d.height in
      let b = t.shape.below y i in
      let u = t.shape.higher y p.level i (omega arith) (omega arith) in
      reach-low g p y (omega arith) ∙ ap (λ (w : ℕ). times w p.walk) (d.only _ u.0 (u.1 ∙ e))

  reach-lifted : (p : Noted) (y : ℕ) → IsNoted g look p → g.inside y ≡ true → reach g2 (lifted p) y ≡ reach g p y
  reach-lifted p y w i =
      let hh = d.height in
      let gl = d.gate_level2 in
      let b = t.shape.below y i in
      on_bool (eqb p.level h)
      (λ q.
      let le : g2.level y ≤ h + 1 = on_bool (eqb y gate)
      (λ z. let e = ap g2.level (eqb-true _ _ z) in omega arith)
      (λ z. let e = d.level y (old y i) (eqb-false _ _ z) in omega arith) in
      ap (λ (x : Noted). reach g2 x y) (lifted-top p q) ∙ (reach-low g2 (record { cell = p.cell; stamp = p.stamp; level = h + 1; walk = p.walk }) y le ∙ ap (λ (x : ℕ). times x p.walk) (d.above_top y))
      ∙ sym (reach-top p y i (eqb-true _ _ q)))
      (λ q. let lt = not-above p w q in
      ap (λ (x : Noted). reach g2 x y) (lifted-low p q) ∙ (on_bool (eqb y gate)
      (λ z. let e = eqb-true _ _ z in
      let e1 = ap g2.level e in
      let e2 = ap g.level e in
      let gl1 = d.gate_level in
      reach-high g2 p y (omega arith) ∙ sym (reach-high g p y (omega arith)))
      (λ z. reach-raised p y lt i (eqb-false _ _ z))))

  reach-m : (p : Noted) → IsNoted g look p → reach g2 (lifted p) m ≡ reach g p gate
  reach-m p w =
      let ml = d.m_level in
      let gl1 = d.gate_level in
      on_bool (eqb p.level h)
      (λ q.
      ap (λ (x : Noted). reach g2 x m) (lifted-top p q) ∙ (reach-low g2 (record { cell = p.cell; stamp = p.stamp; level = h + 1; walk = p.walk }) m (omega arith) ∙ ap (λ (x : ℕ). times x p.walk) (d.above_top m))
      ∙ sym (reach-top p gate d.gate_in (eqb-true _ _ q)))
      (λ q. let lt = not-above p w q in
      ap (λ (x : Noted). reach g2 x m) (lifted-low p q) ∙ (reach-high g2 p m (omega arith) ∙ sym (reach-high g p gate (omega arith))))

  noted-lifted : (p : Noted) → IsNoted g look p → IsNoted g2 look2 (lifted p)
  noted-lifted p w = on_bool (eqb p.level h)
      (λ q.
      let hh = d.height2 in
      let o = not_on g look p m w d.fresh in
      let zs = w.walks.0 in
      let o2 : times m (p.cell ∷ zs) ≡ 0 = rw w.walks.1 at o in
      let cm : p.cell ≢ m = λ z. absurd (let z : same m p.cell ≡ 1 = same_is m p.cell (sym z) in omega arith) in
      let on : times m zs ≡ 0 = omega arith in
      rw (lifted-top p q) (record {
        walks = (zs, w.walks.1, tail-off look look2 m p.stamp p.cell zs d.stamp d.right cm on w.walks.2);
        low = omega arith;
        cells = λ y z. let c = w.cells y z in
            let e : y ≡ gate = d.only y c.0 (c.1 ∙ eqb-true _ _ q) in
            rw e (d.inside gate gm ∙ d.gate_in, d.gate_level2);
      }))
      (λ q. rw (lifted-low p q) (noted-raised p (not-above p w q) w))

  pending-raised : (ps : List Noted) (y : ℕ) → AreNoted g look ps → g.inside y ≡ true → pending g2 (all_lifted ps) y ≡ pending g ps y
  pending-raised [] y a i = refl
  pending-raised (p ∷ ps) y a i = cc (reach-lifted p y a.0 i, pending-raised ps y a.1 i)

  pending-m : (ps : List Noted) → AreNoted g look ps → pending g2 (all_lifted ps) m ≡ pending g ps gate
  pending-m [] a = refl
  pending-m (p ∷ ps) a = cc (reach-m p a.0, pending-m ps a.1)

  all_noted-raised : (ps : List Noted) → AreNoted g look ps → AreNoted g2 look2 (all_lifted ps)
  all_noted-raised [] w = tt
  all_noted-raised (p ∷ ps) w = (noted-lifted p w.0, all_noted-raised ps w.1)

  pub query-raised : (must fits : ℕ → Bool) (ps : List Noted) (counted : List ℕ) → QueryOk g look must fits ps counted → QueryOk g2 look2 must fits (all_lifted ps) counted
  query-raised must fits ps counted q =
      let at_same = λ (r : ℕ) (p : g.placed r ≡ true). ap (pending g2 (all_lifted ps)) (d.at r) ∙ pending-raised ps (g.at r) q.noted (t.shape.stands r p) in
      let ml = d.m_level in
      let gl = d.gate_level2 in
      record {
        noted = all_noted-raised ps q.noted;
        blocks = λ y i. sorts y i
            (λ e. rw (e, pending-m ps q.noted) (q.blocks gate d.gate_in))
            (λ e. rw (e, pending-raised ps gate q.noted d.gate_in) (q.blocks gate d.gate_in))
            (λ i1 lo nm ng. rw (pending-raised ps y q.noted i1) (q.blocks y i1));
        distinct = q.distinct;
        fitting = q.fitting;
        once = λ r p. let p1 = sym (d.placed r) ∙ p in rw (at_same r p1) (q.once r p1);
        whole = λ r p mu f. let p1 = sym (d.placed r) ∙ p in rw (at_same r p1) (q.whole r p1 mu f);
        passed = λ r p ca seen y yi le up.
            let p1 = sym (d.placed r) ∙ p in
            let s = t.shape.stands r p1 in
            let lo = low (g.at r) s (d.free r p1) in
            let lv : g2.level (g2.at r) ≡ g.level (g.at r) = ap g2.level (d.at r) ∙ d.level _ (old _ s) (d.free r p1) in
            sorts y yi
            (λ e. let w : g2.level y ≡ h = ap g2.level e ∙ d.m_level in absurd (omega arith))
            (λ e. let w : g2.level y ≡ h + 1 = ap g2.level e ∙ d.gate_level2 in absurd (omega arith))
            (λ i1 lo1 nm ng.
            let yl = d.level y nm ng in
            let up1 : g.above y (g.level (g.at r)) ≡ g.at r = sym (d.above y (g.level (g.at r)) nm lo) ∙ ap (g2.above y) (sym lv) ∙ up ∙ d.at r in
            rw (pending-raised ps y q.noted i1) (q.passed r p1 (sym (d.carried r) ∙ ca) seen y i1 (omega arith) up1));
      }

-- The tree stays one where a row goes down, and where it is put in its leaf
use Rattle.std.proofs.{Common.{◌≡◌, ◌≢◌, ℕ, ◌+◌, ◌*◌, ◌≤◌, true, false, cond, eqb, leb, List, [], ◌∷◌, refl, sym, ap, ◌∙◌, subst, arith}, lemmas.Bool.{eqb-true, eqb-false, leb-true, leb-false}}
use Rattle.dc_node.specs.declared.entry.Entry.{Entry}
use Rattle.list_words.specs.Counts.{Each, same, times}
use Rattle.list_words.proofs.{Times.{same_is, same_not}, Truth.on_bool}
use Rattle.tree_shape.specs.{Shape.{Node, Shape, ShapeOk, Table}, Trees.{DirOk, EntryOk, TreeOk, lies}, Walks.{IsNoted, beneath, noted_of, reach}}
use Rattle.tree_shape.proofs.{Cutting.Relations.{IsSumOf, Lowered, LoweredTree, SettledTree, Touch, Touched}, Reading.Queries.{reach-low, reach-high, noted-same, reach-same}, Reading.Visits.spans, Whole.Sums.{sum-same, sum-row}}

pub shape-lowered : (g g2 : Shape) (r c : ℕ) → ShapeOk g → Lowered g g2 r c → ShapeOk g2
shape-lowered g g2 r c ok d =
    let s = d.tree in
    let hh = s.height in
    record {
      itself = λ y i. ap (g2.above y) (s.level y) ∙ s.above y (g.level y) ∙ ok.itself y (sym (s.inside y) ∙ i);
      below = λ y i. let b = ok.below y (sym (s.inside y) ∙ i) in let e = s.level y in omega arith;
      higher = λ y l i le lt. let e = s.level y in let h = ok.higher y l (sym (s.inside y) ∙ i) (omega arith) (omega arith) in
          (rw (s.above y l) (s.inside _ ∙ h.0), rw (s.above y l) (s.level _ ∙ h.1));
      coherent = λ y l m i le lm lt. let e = s.level y in
          s.above (g2.above y l) m ∙ ap (λ (w : ℕ). g.above w m) (s.above y l) ∙ ok.coherent y l m (sym (s.inside y) ∙ i) (omega arith) lm (omega arith) ∙ sym (s.above y m);
      stands = λ q p. on_bool (eqb q r)
          (λ b. let e = eqb-true _ _ b in rw (e, d.now) (s.inside c ∙ d.c_inside))
          (λ b. rw (d.at q (eqb-false _ _ b)) (s.inside _ ∙ ok.stands q (sym (d.placed q) ∙ p)));
      settled = λ q p n. on_bool (eqb q r)
          (λ b. let bad : true ≡ false = sym d.r_carried ∙ sym (d.carried r) ∙ ap g2.carried (sym (eqb-true _ _ b)) ∙ n in cc)
          (λ b. rw (d.at q (eqb-false _ _ b)) (s.level _ ∙ ok.settled q (sym (d.placed q) ∙ p) (sym (d.carried q) ∙ n)));
    }

-- a group's head is of the group's level
child_at : (g : Shape) (look : ℕ → Node) (l : ℕ) (e : Entry) → IsNoted g look (noted_of g l e) → (g.inside e.child ≡ true) × (g.level e.child ≡ l)
child_at g look l e t =
    let w = t.walks.1 in
    let one : 1 ≤ times e.child (g.group e.child) = rw w (omega (arith, same_is e.child e.child refl)) in
    t.cells e.child one

spans-touched : (g g2 : Shape) (table : Table) (r c y : ℕ) (es es2 : List Entry) → ((h : ℕ) → g2.group h ≡ g.group h) → Touched table r c es es2 → spans g2 y es2 ≡ spans g y es
spans-touched g g2 table r c y [] [] s t = refl
spans-touched g g2 table r c y [] (x ∷ xs) s t = absurd t
spans-touched g g2 table r c y (e ∷ es) [] s t = absurd t
spans-touched g g2 table r c y (e ∷ es) (e2 ∷ es2) s t =
    let a : times y (g2.group e2.child) ≡ times y (g.group e.child) = ap (λ (x : ℕ). times y (g2.group x)) t.0.child ∙ ap (times y) (s e.child) in
    omega (arith, spans-touched g g2 table r c y es es2 s t.1)

pub spans-same : (g g2 : Shape) (y : ℕ) (es : List Entry) → ((h : ℕ) → g2.group h ≡ g.group h) → spans g2 y es ≡ spans g y es
spans-same g g2 y [] s = refl
spans-same g g2 y (e ∷ es) s = let a = ap (times y) (s e.child) in omega (arith, spans-same g g2 y es s)

module _ (g g2 : Shape) (look look2 : ℕ → Node) (table : Table) (r c : ℕ) (ok : ShapeOk g) (d : LoweredTree g g2 look look2 table r c) where
  -- beneath an entry's group r stands now once more where the group is that of c
  beneath-r : (l : ℕ) (e : Entry) → EntryOk g look table l e → beneath g2 (noted_of g2 l e) r ≡ same e.child c + beneath g (noted_of g l e) r
  beneath-r l e k =
      let lw = d.low in
      let nx = d.next in
      let ch = child_at g look l e k.group in
      let pi = ok.stands r lw.r_placed in
      let now : beneath g2 (noted_of g2 l e) r ≡ reach g (noted_of g l e) c =
      rw (lw.placed r, lw.r_placed) (ap (reach g2 (noted_of g2 l e)) lw.now ∙ rw (d.group e.child) (reach-same g g2 (noted_of g l e) c lw.tree)) in
      let was : beneath g (noted_of g l e) r ≡ reach g (noted_of g l e) (g.at r) = rw lw.r_placed refl in
      on_bool (eqb l (g.level c))
      (λ q. let lc = eqb-true _ _ q in
      let a = reach-low g (noted_of g l e) c (omega arith) in
      let self : g.above c l ≡ c = ap (g.above c) lc ∙ ok.itself c lw.c_inside in
      let m : times c (g.group e.child) ≡ same c e.child = k.members c lw.c_inside (sym lc) ∙ ap (λ (w : ℕ). same w e.child) d.c_head in
      let t : times (g.above c l) (g.group e.child) ≡ same c e.child = ap (λ (w : ℕ). times w (g.group e.child)) self ∙ m in
      let z = reach-high g (noted_of g l e) (g.at r) (omega arith) in
      let flip : same c e.child ≡ same e.child c = on_bool (eqb c e.child)
      (λ w. let eq = eqb-true _ _ w in same_is c e.child eq ∙ sym (same_is e.child c (sym eq)))
      (λ w. let ne = eqb-false _ _ w in same_not c e.child ne ∙ sym (same_not e.child c (λ x. ne (sym x)))) in
      omega arith)
      (λ q. let lc = eqb-false _ _ q in
      let ne : e.child ≢ c = (λ w. let f : g.level e.child ≡ g.level c = ap g.level w in let cl = ch.1 in absurd (omega arith)) in
      let z = same_not e.child c ne in
      on_bool (leb (g.level c) l)
      (λ w. let le = leb-true _ _ w in
      let top = k.group.low in
      let a = reach-low g (noted_of g l e) c le in
      let a2 = reach-low g (noted_of g l e) (g.at r) (omega arith) in
      let up : g.above (g.at r) l ≡ g.above c l = ap (λ (x : ℕ). g.above x l) (sym lw.c_above) ∙ ok.coherent c (g.level (g.at r)) l lw.c_inside (omega arith) (omega arith) top in
      let t : times (g.above (g.at r) l) (g.group e.child) ≡ times (g.above c l) (g.group e.child) = ap (λ (x : ℕ). times x (g.group e.child)) up in
      omega arith)
      (λ w. let gt = leb-false _ _ w in
      let a = reach-high g (noted_of g l e) c gt in
      let a2 = reach-high g (noted_of g l e) (g.at r) (omega arith) in
      omega arith))

  beneath-other : (l : ℕ) (e : Entry) (q : ℕ) → q ≢ r → beneath g2 (noted_of g2 l e) q ≡ beneath g (noted_of g l e) q
  beneath-other l e q ne =
      let lw = d.low in
      rw (lw.placed q, lw.at q ne, d.group e.child) (ap (λ (w : ℕ). cond (g.placed q) w 0) (reach-same g g2 (noted_of g l e) (g.at q) lw.tree))

  times-below : (h q : ℕ) → times q (g2.below h) ≡ same h c * same q r + times q (g.below h)
  times-below h q = on_bool (eqb h c)
      (λ w. let e = eqb-true _ _ w in let o = same_is h c e in rw (o, e, d.below_c) (omega arith))
      (λ w. let e = eqb-false _ _ w in let o = same_not h c e in rw (o, d.below h e) (omega arith))

  -- an entry's laws, where it has the row besides if it leads to c's group
  entry-lowered : (l : ℕ) (e e2 : Entry) → Touch table r c e e2 → EntryOk g look table l e → EntryOk g2 look2 table l e2
  entry-lowered l e e2 t k =
      let lw = d.low in
      let th : IsNoted g2 look2 (noted_of g l e) = noted-same g g2 look look2 (noted_of g l e) lw.tree d.links k.group in
      record {
        group = rw (t.child, t.stamp, d.group e.child) th;
        members = λ y i lv. rw (t.child, d.group e.child, d.head y) (k.members y (sym (lw.tree.inside y) ∙ i) (sym (lw.tree.level y) ∙ lv));
        rows = λ q. rw t.child (on_bool (eqb q r)
            (λ w. let e1 = eqb-true _ _ w in let o = same_is r r refl in let x = beneath-r l e k in let y = k.rows r in let z = times-below e.child r in
            let m : same e.child c * same r r ≡ same e.child c = rw o (omega arith) in
            rw e1 (omega arith))
            (λ w. let ne = eqb-false _ _ w in let o = same_not q r ne in let x = beneath-other l e q ne in let y = k.rows q in let z = times-below e.child q in
            let m : same e.child c * same q r ≡ 0 = rw o (omega arith) in
            omega arith));
        summary = on_bool (eqb e.child c)
            (λ w. let h = eqb-true _ _ w in
            let s : IsSumOf table (g.below c) e = subst (λ (x : ℕ). IsSumOf table (g.below x) e) h k.summary in
            subst (λ (ns : List ℕ). IsSumOf table ns e2) (sym (ap g2.below (t.child ∙ h) ∙ d.below_c)) (sum-row table r (g.below c) e e2 d.numbered (t.here h) s))
            (λ w. let h = eqb-false _ _ w in
            let u = t.elsewhere h in
            sum-same table (g.below e.child) (g2.below e2.child) e e2 (ap (λ (x : Entry). x.agg) u) (ap (λ (x : Entry). x.set) u) (ap g2.below t.child ∙ d.below e.child h) k.summary);
      }

  entries-touched : (l : ℕ) (es es2 : List Entry) → Touched table r c es es2 → Each (EntryOk g look table l) es → Each (EntryOk g2 look2 table l) es2
  entries-touched l [] [] t k = tt
  entries-touched l [] (x ∷ xs) t k = absurd t
  entries-touched l (e ∷ es) [] t k = absurd t
  entries-touched l (e ∷ es) (e2 ∷ es2) t k = (entry-lowered l e e2 t.0 k.0, entries-touched l es es2 t.1 k.1)

  entries-other : (b l : ℕ) (es : List Entry) → (g.level c ≡ l → spans g c es ≡ 0) → Each (EntryOk g look table l) es → Each (EntryOk g2 look2 table l) es
  entries-other b l [] none k = tt
  entries-other b l (e ∷ es) none k =
      let lw = d.low in
      let ch = child_at g look l e k.0.group in
      let ne : e.child ≢ c = (λ w.
      let lv : g.level c ≡ l = ap g.level (sym w) ∙ ch.1 in
      let m : times c (g.group e.child) ≡ same c e.child = k.0.members c lw.c_inside lv ∙ ap (λ (x : ℕ). same x e.child) d.c_head in
      let o = same_is c e.child (sym w) in
      let z = none lv in
      absurd (omega arith)) in (
        entry-lowered l e e (record { child = refl; stamp = refl; here = λ q. absurd (ne q); elsewhere = λ q. refl }) k.0,
        entries-other b l es (λ lv. let z = none lv in omega arith) k.1,
      )

  dir-lowered : (b l : ℕ) → g.inside b ≡ true → g.level b ≡ l + 1 → DirOk g look table b l → DirOk g2 look2 table b l
  dir-lowered b l bi bl k =
      let lw = d.low in
      let nx = d.next in
      let each_old = λ (y : ℕ) (i : g2.inside y ≡ true) (lv : g2.level y ≡ l). k.each y (sym (lw.tree.inside y) ∙ i) (sym (lw.tree.level y) ∙ lv) ∙ ap (λ (w : ℕ). same w b) (sym (lw.tree.above y (l + 1))) in
      on_bool (eqb b (g.at r))
      (λ q. let e = eqb-true _ _ q in
      let es2 : Touched table r c (look b).entries (look2 b).entries = rw e d.entries in
      record {
        entries = entries-touched l (look b).entries (look2 b).entries es2 k.entries;
        each = λ y i lv. spans-touched g g2 table r c y (look b).entries (look2 b).entries d.group es2 ∙ each_old y i lv;
      })
      (λ q. let ne = eqb-false _ _ q in
      let es2 = d.other b ne in
      let none : g.level c ≡ l → spans g c (look b).entries ≡ 0 = (λ lv.
      let up : g.above c (l + 1) ≡ g.at r = ap (g.above c) (omega arith) ∙ lw.c_above in
      k.each c lw.c_inside lv ∙ same_not (g.above c (l + 1)) b (λ w. ne (sym w ∙ up))) in
      record {
        entries = rw es2 (entries-other b l (look b).entries none k.entries);
        each = λ y i lv. rw es2 (spans-same g g2 y (look b).entries d.group ∙ each_old y i lv);
      })

  pub tree-lowered : TreeOk g look table → TreeOk g2 look2 table
  tree-lowered t =
      let lw = d.low in
      record {
        shape = shape-lowered g g2 r c ok lw;
        heads = λ y i. rw (d.head y) (lw.tree.inside _ ∙ t.heads y (sym (lw.tree.inside y) ∙ i));
        leaves = λ b i lv q.
            let old = t.leaves b (sym (lw.tree.inside b) ∙ i) (sym (lw.tree.level b) ∙ lv) q in
            rw (d.rows b) (old ∙ on_bool (eqb q r)
            (λ w. let e = eqb-true _ _ w in rw (e, lw.placed r, lw.carried r, lw.r_placed, lw.r_carried) refl)
            (λ w. let ne = eqb-false _ _ w in rw (lw.placed q, lw.carried q, lw.at q ne) refl));
        dirs = λ b l i lv. dir-lowered b l (sym (lw.tree.inside b) ∙ i) (sym (lw.tree.level b) ∙ lv) (t.dirs b l (sym (lw.tree.inside b) ∙ i) (sym (lw.tree.level b) ∙ lv));
      }

module _ (g g2 : Shape) (look look2 : ℕ → Node) (table : Table) (r : ℕ) (t : TreeOk g look table) (d : SettledTree g g2 look look2 r) where
  shape-settled : ShapeOk g2
  shape-settled =
      let ok = t.shape in
      let u = d.put in
      let s = u.tree in
      let hh = s.height in
      record {
        itself = λ y i. ap (g2.above y) (s.level y) ∙ s.above y (g.level y) ∙ ok.itself y (sym (s.inside y) ∙ i);
        below = λ y i. let b = ok.below y (sym (s.inside y) ∙ i) in let e = s.level y in omega arith;
        higher = λ y l i le lt. let e = s.level y in let h = ok.higher y l (sym (s.inside y) ∙ i) (omega arith) (omega arith) in
            (rw (s.above y l) (s.inside _ ∙ h.0), rw (s.above y l) (s.level _ ∙ h.1));
        coherent = λ y l m i le lm lt. let e = s.level y in
            s.above (g2.above y l) m ∙ ap (λ (w : ℕ). g.above w m) (s.above y l) ∙ ok.coherent y l m (sym (s.inside y) ∙ i) (omega arith) lm (omega arith) ∙ sym (s.above y m);
        stands = λ q p. rw (u.at q) (s.inside _ ∙ ok.stands q (sym (u.placed q) ∙ p));
        settled = λ q p n. rw (u.at q) (s.level _ ∙ on_bool (eqb q r)
            (λ b. ap g.level (ap g.at (eqb-true _ _ b)) ∙ d.low)
            (λ b. ok.settled q (sym (u.placed q) ∙ p) (sym (u.carried q (eqb-false _ _ b)) ∙ n)));
      }

  entry-settled : (b l : ℕ) (e : Entry) → EntryOk g look table l e → EntryOk g2 look2 table l e
  entry-settled b l e k =
      let u = d.put in
      let th : IsNoted g2 look2 (noted_of g l e) = noted-same g g2 look look2 (noted_of g l e) u.tree d.links k.group in
      record {
        group = rw (d.group e.child) th;
        members = λ y i lv. rw (d.group e.child, d.head y) (k.members y (sym (u.tree.inside y) ∙ i) (sym (u.tree.level y) ∙ lv));
        rows = λ q. rw (d.below e.child, d.group e.child, u.placed q, u.at q) (k.rows q ∙ ap (λ (w : ℕ). cond (g.placed q) w 0) (sym (reach-same g g2 (noted_of g l e) (g.at q) u.tree)));
        summary = subst (λ (ns : List ℕ). IsSumOf table ns e) (sym (d.below e.child)) k.summary;
      }

  entries-settled : (b l : ℕ) (es : List Entry) → Each (EntryOk g look table l) es → Each (EntryOk g2 look2 table l) es
  entries-settled b l [] k = tt
  entries-settled b l (e ∷ es) k = (entry-settled b l e k.0, entries-settled b l es k.1)

  lies-put : (b q : ℕ) → lies g2 b q ≡ lies g b q + same q r * same (g.at r) b
  lies-put b q =
      let u = d.put in
      on_bool (eqb q r)
      (λ w. let e = eqb-true _ _ w in let o = same_is q r e in
      rw o (let z : lies g2 b r ≡ same (g.at r) b = rw (u.placed r, u.now, u.at r, d.r_placed) refl in
      let y : lies g b r ≡ 0 = rw (d.r_placed, d.r_carried) refl in
      rw e (omega arith)))
      (λ w. let ne = eqb-false _ _ w in let o = same_not q r ne in
      let z : lies g2 b q ≡ lies g b q = rw (u.placed q, u.carried q ne, u.at q) refl in
      rw o (omega arith))

  pub tree-settled : TreeOk g2 look2 table
  tree-settled =
      let u = d.put in
      record {
        shape = shape-settled;
        heads = λ y i. rw (d.head y) (u.tree.inside _ ∙ t.heads y (sym (u.tree.inside y) ∙ i));
        leaves = λ b i lv q.
            let old = t.leaves b (sym (u.tree.inside b) ∙ i) (sym (u.tree.level b) ∙ lv) q in
            let p = lies-put b q in
            on_bool (eqb b (g.at r))
            (λ w. let e = eqb-true _ _ w in
            let o = same_is (g.at r) b (sym e) in
            let m : same q r * same (g.at r) b ≡ same q r = rw o (omega arith) in
            let x : times q (look2 b).rows ≡ times q (look b).rows + same q r = rw e (d.rows q) in
            omega arith)
            (λ w. let ne = eqb-false _ _ w in
            let o = same_not (g.at r) b (λ h. ne (sym h)) in
            let m : same q r * same (g.at r) b ≡ 0 = rw o (omega arith) in
            rw (d.other b ne) (omega arith));
        dirs = λ b l i lv.
            let k = t.dirs b l (sym (u.tree.inside b) ∙ i) (sym (u.tree.level b) ∙ lv) in
            record {
              entries = rw (d.entries b) (entries-settled b l (look b).entries k.entries);
              each = λ y yi yl. rw (d.entries b) (spans-same g g2 y (look b).entries d.group ∙ k.each y (sym (u.tree.inside y) ∙ yi) (sym (u.tree.level y) ∙ yl) ∙ ap (λ (w : ℕ). same w b) (sym (u.tree.above y (l + 1))));
            };
      }

-- What a division and a way down keep of an unfinished query
use Rattle.std.proofs.{Common.{◌≡◌, ◌≢◌, ℕ, ◌<◌, ◌≤◌, inl, inr, Bool, true, false, eqb, leb, List, [], ◌∷◌, refl, sym, ap, ◌∙◌, arith}, lemmas.Bool.{eqb-true, eqb-false, le-leb, leb-false, leb-true, lt-leb}}
use Rattle.list_words.specs.Counts.{times}
use Rattle.list_words.proofs.Truth.{on_bool}
use Rattle.tree_shape.specs.{Queries.{QueryOk, fits}, Shape.{Node, Shape, ShapeOk}, Walks.{AreNoted, IsNoted, IsTail, Noted, pending, reach}}
use Rattle.tree_shape.proofs.{Cutting.Relations.{Divided, Lowered, NoneExpects, Relinked, SameLinks, SameTree, all_grown, grown, put_behind}, Cutting.Walks.{times-put_behind_other, times-put_behind_new, walk-put_behind}}

-- where a block stands at or below a noted one's level, and where it doesn't
pub reach-low : (g : Shape) (p : Noted) (y : ℕ) → g.level y ≤ p.level → reach g p y ≡ times (g.above y p.level) p.walk
reach-low g p y h = let e = le-leb _ _ h in rw e refl

pub reach-high : (g : Shape) (p : Noted) (y : ℕ) → p.level < g.level y → reach g p y ≡ 0
reach-high g p y h = let e = lt-leb _ _ h in rw e refl

-- n is on no walk
pub not_on : (g : Shape) (look : ℕ → Node) (p : Noted) (n : ℕ) → IsNoted g look p → g.inside n ≡ false → times n p.walk ≡ 0
not_on g look p n t f = on_bool (leb 1 (times n p.walk))
    (λ b. let i = (t.cells n (leb-true _ _ b)).0 in absurd (let w : true ≡ false = sym i ∙ f in cc))
    (λ b. let i = leb-false _ _ b in omega arith)

pub apart : (g : Shape) (y n : ℕ) → g.inside y ≡ true → g.inside n ≡ false → y ≢ n
apart g y n a b e = let w : true ≡ false = sym a ∙ ap g.inside e ∙ b in cc

module _ (g g2 : Shape) (look : ℕ → Node) (k c n : ℕ) (ok : ShapeOk g) (d : Divided g g2 k c n) where
  pub c_not_n : c ≢ n
  c_not_n = apart g c n d.c_inside d.fresh

  pub reach-divided : (p : Noted) (y : ℕ) → IsNoted g look p → g.inside y ≡ true → reach g2 (grown c n p) y ≡ reach g p y
  reach-divided p y t i =
      let yn = apart g y n i d.fresh in
      let e = d.level y yn in
      on_bool (leb (g.level y) p.level)
      (λ b.
      let le = leb-true _ _ b in
      let le2 : g2.level y ≤ p.level = omega (arith, e) in
      let zi = (ok.higher y p.level i le t.low).0 in
      let zn = apart g (g.above y p.level) n zi d.fresh in
      reach-low g2 (grown c n p) y le2
      ∙ (elim (d.above y p.level i le) [
        | inl same_as ↦ rw same_as (times-put_behind_other c n (g.above y p.level) p.walk zn)
        | inr w ↦ rw (w.2, w.1) (let q = times-put_behind_new c n p.walk c_not_n in let o = not_on g look p n t d.fresh in omega arith)
      ])
      ∙ sym (reach-low g p y le))
      (λ b.
      let gt = leb-false _ _ b in
      let gt2 : p.level < g2.level y = omega (arith, e) in
      reach-high g2 (grown c n p) y gt2 ∙ sym (reach-high g p y gt))

  pub reach-new : (p : Noted) → IsNoted g look p → reach g2 (grown c n p) n ≡ reach g p c
  reach-new p t =
      on_bool (leb (g.level c) p.level)
      (λ b.
      let le = leb-true _ _ b in
      let ce = d.c_level in
      let ne = d.new_level in
      let le2 : g2.level n ≤ p.level = omega arith in
      let o = not_on g look p n t d.fresh in
      reach-low g2 (grown c n p) n le2
      ∙ on_bool (eqb k p.level)
      (λ q. let kp = eqb-true _ _ q in
      let itself : g.above c p.level ≡ c = ap (g.above c) (sym kp ∙ sym ce) ∙ ok.itself c d.c_inside in
      let itself2 : g2.above n p.level ≡ n = ap (g2.above n) (sym kp) ∙ d.new_itself in
      rw (itself, itself2) (let r = times-put_behind_new c n p.walk c_not_n in omega arith))
      (λ q. let kp = eqb-false _ _ q in
      let lt : k < p.level = omega arith in
      let zi = (ok.higher c p.level d.c_inside le t.low).0 in
      let zn = apart g (g.above c p.level) n zi d.fresh in
      rw (d.new_above p.level lt) (times-put_behind_other c n (g.above c p.level) p.walk zn))
      ∙ sym (reach-low g p c le))
      (λ b.
      let gt = leb-false _ _ b in
      let ce = d.c_level in
      let ne = d.new_level in
      let gt2 : p.level < g2.level n = omega arith in
      reach-high g2 (grown c n p) n gt2 ∙ sym (reach-high g p c gt))

  pub pending-divided : (ps : List Noted) (y : ℕ) → AreNoted g look ps → g.inside y ≡ true → pending g2 (all_grown c n ps) y ≡ pending g ps y
  pending-divided [] y t i = refl
  pending-divided (p ∷ ps) y t i = cc (reach-divided p y t.0 i, pending-divided ps y t.1 i)

  pub pending-new : (ps : List Noted) → AreNoted g look ps → pending g2 (all_grown c n ps) n ≡ pending g ps c
  pending-new [] t = refl
  pending-new (p ∷ ps) t = cc (reach-new p t.0, pending-new ps t.1)

  pub inside_before : (y : ℕ) → y ≢ n → g2.inside y ≡ true → g.inside y ≡ true
  inside_before y yn i = sym (d.inside y yn) ∙ i

  pub noted-divided : (look2 : ℕ → Node) (t : ℕ) (p : Noted) → Relinked look look2 c n t → p.stamp ≢ t → IsNoted g look p → IsNoted g2 look2 (grown c n p)
  noted-divided look2 t p x fresh h =
      let o = not_on g look p n h d.fresh in
      let hh = d.height in
      let lo = h.low in
      record {
        walks = walk-put_behind look look2 c n t p.stamp p.cell p.walk x fresh o h.walks;
        low = omega arith;
        cells = λ y on. on_bool (eqb y n)
            (λ b. let yn = eqb-true _ _ b in
            let q = times-put_behind_new c n p.walk c_not_n in
            let on2 : 1 ≤ times n (put_behind c n p.walk) = rw yn at on in
            let cw = h.cells c (omega arith) in
            rw yn (d.new_inside, d.new_level ∙ sym d.c_level ∙ cw.1))
            (λ b. let yn = eqb-false _ _ b in
            let q = times-put_behind_other c n y p.walk yn in
            let w = h.cells y (omega arith) in
            (d.inside y yn ∙ w.0, d.level y yn ∙ w.1));
      }

  all_noted-divided : (look2 : ℕ → Node) (t : ℕ) (ps : List Noted) → Relinked look look2 c n t → NoneExpects t ps → AreNoted g look ps → AreNoted g2 look2 (all_grown c n ps)
  all_noted-divided look2 t [] x fresh h = tt
  all_noted-divided look2 t (p ∷ ps) x fresh h = (noted-divided look2 t p x fresh.0 h.0, all_noted-divided look2 t ps x fresh.1 h.1)

  pub reach-at : (p : Noted) (r : ℕ) → IsNoted g look p → g.placed r ≡ true → reach g2 (grown c n p) (g2.at r) ≡ reach g p (g.at r)
  reach-at p r t i = elim (d.at r i) [
    | inl e ↦ rw e (reach-divided p (g.at r) t (ok.stands r i))
    | inr w ↦ rw (w.3, w.1) (reach-new p t)
  ]

  -- what is pending at the block where a row stands
  pending-at : (ps : List Noted) (r : ℕ) → AreNoted g look ps → g.placed r ≡ true → pending g2 (all_grown c n ps) (g2.at r) ≡ pending g ps (g.at r)
  pending-at ps r t i = elim (d.at r i) [
    | inl e ↦ rw e (pending-divided ps (g.at r) t (ok.stands r i))
    | inr w ↦ rw (w.3, w.1) (pending-new ps t)
  ]

  -- a division beneath a query, by anybody
  pub query-divided : (look2 : ℕ → Node) (t : ℕ) (must fits : ℕ → Bool) (ps : List Noted) (counted : List ℕ) → Relinked look look2 c n t → NoneExpects t ps → QueryOk g look must fits ps counted → QueryOk g2 look2 must fits (all_grown c n ps) counted
  query-divided look2 t must fits ps counted x fresh q = record {
    noted = all_noted-divided look2 t ps x fresh q.noted;
    blocks = λ y i. on_bool (eqb y n)
        (λ b. let yn = eqb-true _ _ b in
        let e = pending-new ps q.noted in
        let old = q.blocks c d.c_inside in
        rw yn (omega arith))
        (λ b. let i1 = inside_before y (eqb-false _ _ b) i in
        let e = pending-divided ps y q.noted i1 in
        let old = q.blocks y i1 in
        omega arith);
    distinct = q.distinct;
    fitting = q.fitting;
    once = λ r i. let i1 = sym (d.placed r) ∙ i in rw (pending-at ps r q.noted i1) (q.once r i1);
    whole = λ r i m f. let i1 = sym (d.placed r) ∙ i in rw (pending-at ps r q.noted i1) (q.whole r i1 m f);
    passed = λ r i ca seen y yi le ab.
        let i1 = sym (d.placed r) ∙ i in
        let ca1 = sym (d.carried r) ∙ ca in
        let ai = ok.stands r i1 in
        let an = apart g (g.at r) n ai d.fresh in
        let same_at : g2.at r ≡ g.at r = elim (d.at r i1) [ inl e ↦ e | inr w ↦ (let z : true ≡ false = sym ca1 ∙ w.2 in cc) ] in
        let lv : g2.level (g2.at r) ≡ g.level (g.at r) = ap g2.level same_at ∙ d.level (g.at r) an in
        on_bool (eqb y n)
        (λ b. let yn = eqb-true _ _ b in
        let ab2 : g2.above n (g.level (g.at r)) ≡ g.at r = rw (yn, lv, same_at) at ab in
        let le2 : g2.level n ≤ g.level (g.at r) = rw (yn, lv) at le in
        let nl = d.new_level in
        on_bool (eqb k (g.level (g.at r)))
        (λ b2. let ke = eqb-true _ _ b2 in
        let bad : g.at r ≡ n = sym ab2 ∙ ap (g2.above n) (sym ke) ∙ d.new_itself in
        absurd (an bad))
        (λ b2. let ke = eqb-false _ _ b2 in
        let lt : k < g.level (g.at r) = omega arith in
        let cl = d.c_level in
        rw (yn, pending-new ps q.noted) (q.passed r i1 ca1 seen c d.c_inside (omega arith) (sym (d.new_above _ lt) ∙ ab2))))
        (λ b. let yn = eqb-false _ _ b in
        let yi1 = inside_before y yn yi in
        let yl = d.level y yn in
        let ab2 : g2.above y (g.level (g.at r)) ≡ g.at r = rw (lv, same_at) at ab in
        let le2 : g.level y ≤ g.level (g.at r) = omega arith in
        let up : g.above y (g.level (g.at r)) ≡ g.at r = elim (d.above y (g.level (g.at r)) yi1 le2) [
          | inl e ↦ sym e ∙ ab2
          | inr w ↦ absurd (an (sym ab2 ∙ w.2))
        ] in
        rw (pending-divided ps y q.noted yi1) (q.passed r i1 ca1 seen y yi1 le2 up));
  }

-- The same blocks in the same way, the same stamps and links
pub reach-same : (g g2 : Shape) (p : Noted) (y : ℕ) → SameTree g g2 → reach g2 p y ≡ reach g p y
reach-same g g2 p y s = rw (s.level y, s.above y p.level) refl

pub pending-same : (g g2 : Shape) (ps : List Noted) (y : ℕ) → SameTree g g2 → pending g2 ps y ≡ pending g ps y
pending-same g g2 [] y s = refl
pending-same g g2 (p ∷ ps) y s = cc (reach-same g g2 p y s, pending-same g g2 ps y s)

tail-same : (look look2 : ℕ → Node) (s y : ℕ) (zs : List ℕ) → SameLinks look look2 → IsTail look s y zs → IsTail look2 s y zs
tail-same look look2 s y [] x h = x.stamp y ∙ h
tail-same look look2 s y (z ∷ zs) x h = ((λ q. h.0 (sym (x.stamp y) ∙ q)), x.right y ∙ h.1, tail-same look look2 s z zs x h.2)

pub noted-same : (g g2 : Shape) (look look2 : ℕ → Node) (p : Noted) → SameTree g g2 → SameLinks look look2 → IsNoted g look p → IsNoted g2 look2 p
noted-same g g2 look look2 p s x h =
    let hh = s.height in
    let lo = h.low in
    record {
      walks = (h.walks.0, h.walks.1, tail-same look look2 p.stamp p.cell h.walks.0 x h.walks.2);
      low = omega arith;
      cells = λ y on. let w = h.cells y on in (s.inside y ∙ w.0, s.level y ∙ w.1);
    }

pub all_noted-same : (g g2 : Shape) (look look2 : ℕ → Node) (ps : List Noted) → SameTree g g2 → SameLinks look look2 → AreNoted g look ps → AreNoted g2 look2 ps
all_noted-same g g2 look look2 [] s x h = tt
all_noted-same g g2 look look2 (p ∷ ps) s x h = (noted-same g g2 look look2 p s x h.0, all_noted-same g g2 look look2 ps s x h.1)

-- what is pending at a block is pending at each block beneath it
reach-beneath : (g : Shape) (look : ℕ → Node) (p : Noted) (c : ℕ) → ShapeOk g → IsNoted g look p → (b : ℕ) → g.inside c ≡ true → g.inside b ≡ true → g.level c ≤ g.level b → g.above c (g.level b) ≡ b → reach g p b ≤ reach g p c
reach-beneath g look p c ok t b ci bi le ab = on_bool (leb (g.level b) p.level)
    (λ q.
    let lb = leb-true _ _ q in
    let lc : g.level c ≤ p.level = omega arith in
    let same_up : g.above b p.level ≡ g.above c p.level = ap (λ (w : ℕ). g.above w p.level) (sym ab) ∙ ok.coherent c (g.level b) p.level ci le lb t.low in
    let e : reach g p b ≡ reach g p c = reach-low g p b lb ∙ ap (λ (w : ℕ). times w p.walk) same_up ∙ sym (reach-low g p c lc) in
    omega arith)
    (λ q. let e = reach-high g p b (leb-false _ _ q) in omega arith)

pub pending-beneath : (g : Shape) (look : ℕ → Node) (ps : List Noted) (c : ℕ) → ShapeOk g → AreNoted g look ps → (b : ℕ) → g.inside c ≡ true → g.inside b ≡ true → g.level c ≤ g.level b → g.above c (g.level b) ≡ b → pending g ps b ≤ pending g ps c
pending-beneath g look [] c ok t b ci bi le ab = omega arith
pending-beneath g look (p ∷ ps) c ok t b ci bi le ab = omega (arith, reach-beneath g look p c ok t.0 b ci bi le ab, pending-beneath g look ps c ok t.1 b ci bi le ab)

-- a carried row goes down a level
pub query-lowered : (g g2 : Shape) (look look2 : ℕ → Node) (r c : ℕ) (must fits : ℕ → Bool) (ps : List Noted) (counted : List ℕ) → ShapeOk g → Lowered g g2 r c → SameLinks look look2 → QueryOk g look must fits ps counted → QueryOk g2 look2 must fits ps counted
query-lowered g g2 look look2 r c must fits ps counted ok d x q =
    let same_pend = λ (y : ℕ). pending-same g g2 ps y d.tree in
    let ai = ok.stands r d.r_placed in
    let cl = d.c_level in
    let more = pending-beneath g look ps c ok q.noted (g.at r) d.c_inside ai (omega arith) d.c_above in
    let bc = q.blocks c d.c_inside in
    let dr = q.distinct r in
    let clear : 1 ≤ times r counted → pending g ps c ≡ 0 = λ s. q.passed r d.r_placed d.r_carried s c d.c_inside (omega arith) d.c_above in
    record {
      noted = all_noted-same g g2 look look2 ps d.tree x q.noted;
      blocks = λ y i. rw (same_pend y) (q.blocks y (sym (d.tree.inside y) ∙ i));
      distinct = q.distinct;
      fitting = q.fitting;
      once = λ s i. on_bool (eqb s r)
          (λ b. let e = eqb-true _ _ b in rw (e, d.now, same_pend c) (on_bool (leb 1 (times r counted))
          (λ w. let z = clear (leb-true _ _ w) in omega arith)
          (λ w. let z = leb-false _ _ w in omega arith)))
          (λ b. rw (d.at s (eqb-false _ _ b), same_pend (g.at s)) (q.once s (sym (d.placed s) ∙ i)));
      whole = λ s i m f. let old = q.whole s (sym (d.placed s) ∙ i) m f in on_bool (eqb s r)
          (λ b. let e = eqb-true _ _ b in let o2 = rw e at old in rw (e, d.now, same_pend c) (omega arith))
          (λ b. rw (d.at s (eqb-false _ _ b), same_pend (g.at s)) old);
      passed = λ s i ca seen y yi le ab.
          let yi1 = sym (d.tree.inside y) ∙ yi in
          let lv = λ (w : ℕ). d.tree.level w in
          rw (same_pend y) (on_bool (eqb s r)
          (λ b.
          let e : g2.at s ≡ c = ap g2.at (eqb-true _ _ b) ∙ d.now in
          let seen1 : 1 ≤ times r counted = rw (eqb-true _ _ b) at seen in
          let ly = lv y in
          let lc : g2.level (g2.at s) ≡ g.level c = ap g2.level e ∙ lv c in
          let up1 : g.above y (g.level c) ≡ c = sym (d.tree.above y (g.level c)) ∙ ap (g2.above y) (sym lc) ∙ ab ∙ e in
          let up2 : g.above y (g.level (g.at r)) ≡ g.at r =
          sym (ok.coherent y (g.level c) (g.level (g.at r)) yi1 (omega arith) (omega arith) (ok.below (g.at r) ai)) ∙ ap (λ (w : ℕ). g.above w (g.level (g.at r))) up1 ∙ d.c_above in
          q.passed r d.r_placed d.r_carried seen1 y yi1 (omega arith) up2)
          (λ b.
          let e : g2.at s ≡ g.at s = d.at s (eqb-false _ _ b) in
          let ly = lv y in
          let lc : g2.level (g2.at s) ≡ g.level (g.at s) = ap g2.level e ∙ lv (g.at s) in
          let up1 : g.above y (g.level (g.at s)) ≡ g.at s = sym (d.tree.above y (g.level (g.at s))) ∙ ap (g2.above y) (sym lc) ∙ ab ∙ e in
          q.passed s (sym (d.placed s) ∙ i) (sym (d.carried s) ∙ ca) seen y yi1 (omega arith) up1));
    }

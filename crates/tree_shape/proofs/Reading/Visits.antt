-- A query visits a block
use Rattle.std.proofs.{Common.{◌≡◌, ◌≢◌, ℕ, ◌+◌, ◌<◌, ◌≤◌, Bool, true, false, leb, eqb, List, [], ◌∷◌, ◌++◌, refl, sym, ap, ◌∙◌, arith}, lemmas.Bool.{eqb-true, eqb-false, leb-true, leb-false}}
use Rattle.dc_node.specs.declared.entry.Entry.{Entry}
use Rattle.list_words.specs.Counts.{Each, same, times, total}
use Rattle.list_words.proofs.{Times.{same_not, times-append}, Truth.on_bool}
use Rattle.tree_shape.specs.{Queries.{QueryOk, fits}, Shape.{Node, Shape, ShapeOk, Table}, Trees.{DirOk, EntryOk, lies}, Walks.{AreNoted, IsNoted, IsTail, Noted, noted_of, pending, reach}}
use Rattle.tree_shape.proofs.{Cutting.Relations.{Note, Skip, Take, Verdict, VerdictOk, fitting, left_over, notes, takes}, Reading.Queries.{reach-low, reach-high}}

pub pending-append : (g : Shape) (ps qs : List Noted) (y : ℕ) → pending g (ps ++ qs) y ≡ pending g ps y + pending g qs y
pending-append g [] qs y = omega arith
pending-append g (p ∷ ps) qs y = omega (arith, pending-append g ps qs y)

pub all_noted-append : (g : Shape) (look : ℕ → Node) (ps qs : List Noted) → AreNoted g look ps → AreNoted g look qs → AreNoted g look (ps ++ qs)
all_noted-append g look [] qs h k = k
all_noted-append g look (p ∷ ps) qs h k = (h.0, all_noted-append g look ps qs h.1 k)

-- the rows beneath the entries that are skipped
abbrev pub on_skip : {A : Type 0} → Verdict → List A → List A → List A
on_skip Skip xs ys = xs ++ ys
on_skip Note xs ys = ys
on_skip Take xs ys = ys

abbrev pub skips : Shape → (Entry → Verdict) → List Entry → List ℕ
skips g v [] = []
skips g v (e ∷ es) = on_skip (v e) (g.below e.child) (skips g v es)

-- how often y stands in the groups of the entries
abbrev pub spans : Shape → ℕ → List Entry → ℕ
spans g y es = total (λ e. times y (g.group e.child)) es

pub on_verdict : {P : Type 0} → (v : Verdict) → (v ≡ Skip → P) → (v ≡ Note → P) → (v ≡ Take → P) → P
on_verdict Skip a b c = a refl
on_verdict Note a b c = b refl
on_verdict Take a b c = c refl

module _ (g : Shape) (look : ℕ → Node) (table : Table) (fits : ℕ → Bool) (v : Entry → Verdict) (b l : ℕ) where
  -- for a row at or below the entries' level, each entry's rows are noted, taken or skipped
  pub split_rows : (es : List Entry) (r : ℕ) → Each (EntryOk g look table l) es → g.placed r ≡ true → g.level (g.at r) ≤ l
      → (pending g (notes g l v es) (g.at r) + times r (takes g v es)) + times r (skips g v es) ≡ spans g (g.above (g.at r) l) es
  split_rows [] r ok p le = refl
  split_rows (e ∷ es) r ok p le =
      let ih = split_rows es r ok.1 p le in
      let low = reach-low g (noted_of g l e) (g.at r) le in
      let rows : times r (g.below e.child) ≡ times (g.above (g.at r) l) (g.group e.child) = ok.0.rows r ∙ (rw p low) in
      on_verdict (v e)
      (λ w. rw w (omega (arith, times-append r (g.below e.child) (skips g v es))))
      (λ w. rw w (omega arith))
      (λ w. rw w (omega (arith, times-append r (g.below e.child) (takes g v es))))

  -- and for a row above it none
  pub none_taken : (es : List Entry) (r : ℕ) → Each (EntryOk g look table l) es → g.placed r ≡ true → l < g.level (g.at r) → times r (takes g v es) ≡ 0
  none_taken [] r ok p lt = refl
  none_taken (e ∷ es) r ok p lt =
      let ih = none_taken es r ok.1 p lt in
      let high = reach-high g (noted_of g l e) (g.at r) lt in
      let rows : times r (g.below e.child) ≡ 0 = ok.0.rows r ∙ (rw p high) in
      on_verdict (v e)
      (λ w. rw w ih)
      (λ w. rw w ih)
      (λ w. rw w (omega (arith, times-append r (g.below e.child) (takes g v es))))

  pub unplaced : (es : List Entry) (r : ℕ) → Each (EntryOk g look table l) es → g.placed r ≡ false → times r (takes g v es) ≡ 0
  unplaced [] r ok p = refl
  unplaced (e ∷ es) r ok p =
      let ih = unplaced es r ok.1 p in
      let rows : times r (g.below e.child) ≡ 0 = ok.0.rows r ∙ (rw p refl) in
      on_verdict (v e) (λ w. rw w ih) (λ w. rw w ih) (λ w. rw w (omega (arith, times-append r (g.below e.child) (takes g v es))))

  pub none_noted : (es : List Entry) (y : ℕ) → l < g.level y → pending g (notes g l v es) y ≡ 0
  none_noted [] y lt = refl
  none_noted (e ∷ es) y lt =
      let ih = none_noted es y lt in
      let high = reach-high g (noted_of g l e) y lt in
      on_verdict (v e) (λ w. rw w ih) (λ w. rw w (omega arith)) (λ w. rw w ih)

  -- a block is noted no more often than the entries' groups have it
  pub noted-le : (es : List Entry) (y : ℕ) → g.level y ≤ l → pending g (notes g l v es) y ≤ spans g (g.above y l) es
  noted-le [] y le = omega arith
  noted-le (e ∷ es) y le =
      let ih = noted-le es y le in
      let low = reach-low g (noted_of g l e) y le in
      on_verdict (v e) (λ w. rw w (omega arith)) (λ w. rw w (omega arith)) (λ w. rw w (omega arith))

  pub noted_at : (es : List Entry) (y z : ℕ) → g.level y ≤ l → g.level z ≤ l → g.above y l ≡ g.above z l → pending g (notes g l v es) y ≡ pending g (notes g l v es) z
  noted_at [] y z le le2 up = refl
  noted_at (e ∷ es) y z le le2 up =
      let ih = noted_at es y z le le2 up in
      let a = reach-low g (noted_of g l e) y le in
      let c = reach-low g (noted_of g l e) z le2 in
      let s = ap (λ (w : ℕ). times w (g.group e.child)) up in
      on_verdict (v e) (λ w. rw w ih) (λ w. rw w (omega arith)) (λ w. rw w ih)

  pub notes_are : (es : List Entry) → Each (EntryOk g look table l) es → AreNoted g look (notes g l v es)
  notes_are [] ok = tt
  notes_are (e ∷ es) ok =
      let ih = notes_are es ok.1 in
      on_verdict (v e) (λ w. rw w ih) (λ w. rw w (ok.0.group, ih)) (λ w. rw w ih)

  pub takes_fit : (es : List Entry) → Each (VerdictOk g fits v) es → (r : ℕ) → 1 ≤ times r (takes g v es) → fits r ≡ true
  takes_fit [] ok r h = absurd (omega arith)
  takes_fit (e ∷ es) ok r h =
      on_verdict (v e)
      (λ w. takes_fit es ok.1 r (rw w at h))
      (λ w. takes_fit es ok.1 r (rw w at h))
      (λ w. let k : 1 ≤ times r (g.below e.child ++ takes g v es) = rw w at h in
      let s = times-append r (g.below e.child) (takes g v es) in
      on_bool (leb 1 (times r (g.below e.child)))
      (λ q. ok.0.take w r (leb-true _ _ q))
      (λ q. let z = leb-false _ _ q in takes_fit es ok.1 r (omega arith)))

  pub skips_dont : (es : List Entry) → Each (VerdictOk g fits v) es → (r : ℕ) → fits r ≡ true → times r (skips g v es) ≡ 0
  skips_dont [] ok r f = refl
  skips_dont (e ∷ es) ok r f =
      let ih = skips_dont es ok.1 r f in
      on_verdict (v e)
      (λ w.
      let s = times-append r (g.below e.child) (skips g v es) in
      let none : times r (g.below e.child) ≡ 0 = on_bool (leb 1 (times r (g.below e.child)))
      (λ q. let bad : true ≡ false = sym f ∙ ok.0.skip w r (leb-true _ _ q) in cc)
      (λ q. let z = leb-false _ _ q in omega arith) in
      rw w (omega arith))
      (λ w. rw w ih)
      (λ w. rw w ih)

pub left-low : (g : Shape) (s l : ℕ) (zs : List ℕ) (y : ℕ) → g.level y ≤ l → pending g (left_over s l zs) y ≡ times (g.above y l) zs
left-low g s l [] y le = refl
left-low g s l (z ∷ zs) y le =
    let a = reach-low g (record { cell = z; stamp = s; level = l; walk = z ∷ zs }) y le in
    omega arith

pub left-high : (g : Shape) (s l : ℕ) (zs : List ℕ) (y : ℕ) → l < g.level y → pending g (left_over s l zs) y ≡ 0
left-high g s l [] y lt = refl
left-high g s l (z ∷ zs) y lt =
    let a = reach-high g (record { cell = z; stamp = s; level = l; walk = z ∷ zs }) y lt in
    omega arith

-- what is left of a walk is a noted block
pub left_are : (g : Shape) (look : ℕ → Node) (p : Noted) (b : ℕ) (zs : List ℕ) → IsNoted g look p → p.walk ≡ b ∷ zs → AreNoted g look (left_over p.stamp p.level zs)
left_are g look p b [] t e = tt
left_are g look p b (z ∷ zs) t e =
    let w = t.walks in
    let whole : b ∷ z ∷ zs ≡ p.cell ∷ w.0 = sym e ∙ w.1 in
    let heads : b ≡ p.cell = cc in
    let tails : z ∷ zs ≡ w.0 = cc in
    let h : IsTail look p.stamp p.cell (z ∷ zs) = rw (← tails) at w.2 in (
      record {
        walks = (zs, refl, h.2);
        low = t.low;
        cells = λ y on. t.cells y (rw e (omega arith));
      },
      tt,
    )

module _ (g : Shape) (look : ℕ → Node) (table : Table) (must fits : ℕ → Bool) (v : Entry → Verdict) (b l : ℕ) (p : Noted) (zs : List ℕ) (ps : List Noted) (counted : List ℕ)
    (ok : ShapeOk g) (dir : DirOk g look table b l) (bi : g.inside b ≡ true) (bl : g.level b ≡ l + 1)
    (free : (r : ℕ) → g.placed r ≡ true → g.carried r ≡ true → g.at r ≢ b)
    (at_b : p.walk ≡ b ∷ zs) (pl : p.level ≡ l + 1)
    (judged : Each (VerdictOk g fits v) (look b).entries)
    (q : QueryOk g look must fits (p ∷ ps) counted) where
  abbrev pub after_visit : List Noted
  after_visit = notes g l v (look b).entries ++ (left_over p.stamp p.level zs ++ ps)

  reach-split : (y : ℕ) → g.level y ≤ l + 1 → reach g p y ≡ same (g.above y (l + 1)) b + pending g (left_over p.stamp p.level zs) y
  reach-split y le =
      let le2 : g.level y ≤ p.level = omega arith in
      let a = reach-low g p y le2 in
      let c = left-low g p.stamp p.level zs y le2 in
      let d : times (g.above y p.level) p.walk ≡ same (g.above y p.level) b + times (g.above y p.level) zs = rw at_b refl in
      let e : same (g.above y p.level) b ≡ same (g.above y (l + 1)) b = ap (λ (w : ℕ). same (g.above y w) b) pl in
      omega arith

  pending-after : (y : ℕ) → pending g after_visit y ≡ pending g (notes g l v (look b).entries) y + (pending g (left_over p.stamp p.level zs) y + pending g ps y)
  pending-after y = omega (arith, pending-append g (notes g l v (look b).entries) (left_over p.stamp p.level zs ++ ps) y, pending-append g (left_over p.stamp p.level zs) ps y)

  -- the groups of the entries have each block beneath b once, and no other
  spans-is : (y : ℕ) → g.inside y ≡ true → g.level y ≤ l → spans g (g.above y l) (look b).entries ≡ same (g.above y (l + 1)) b
  spans-is y yi le =
      let top = ok.below b bi in
      let h = ok.higher y l yi le (omega arith) in
      dir.each (g.above y l) h.0 h.1 ∙ ap (λ (w : ℕ). same w b) (ok.coherent y l (l + 1) yi le (omega arith) (omega arith))

  pending-no_more : (y : ℕ) → g.inside y ≡ true → pending g after_visit y ≤ pending g (p ∷ ps) y
  pending-no_more y yi =
      let a = pending-after y in
      on_bool (leb (g.level y) l)
      (λ c. let le = leb-true _ _ c in
      let n = noted-le g look table fits v b l (look b).entries y le in
      let s = spans-is y yi le in
      let r = reach-split y (omega arith) in
      omega arith)
      (λ c. let gt = leb-false _ _ c in
      let n = none_noted g look table fits v b l (look b).entries y gt in
      on_bool (leb (g.level y) (l + 1))
      (λ c2. let r = reach-split y (leb-true _ _ c2) in omega arith)
      (λ c2. let gt2 : p.level < g.level y = (let w = leb-false _ _ c2 in omega arith) in
      let z = left-high g p.stamp p.level zs y gt2 in
      omega arith))

  -- and b less often
  pub pending-fewer : (y : ℕ) → g.inside y ≡ true → pending g after_visit y + same y b ≤ pending g (p ∷ ps) y
  pending-fewer y yi =
      let more = pending-no_more y yi in
      on_bool (eqb (g.level y) (l + 1))
      (λ c. let lev : g.level y ≡ l + 1 = eqb-true _ _ c in
      let self : g.above y (l + 1) ≡ y = ap (g.above y) (sym lev) ∙ ok.itself y yi in
      let a = pending-after y in
      let n = none_noted g look table fits v b l (look b).entries y (omega arith) in
      let r = reach-split y (omega arith) in
      let s : same (g.above y (l + 1)) b ≡ same y b = ap (λ (w : ℕ). same w b) self in
      omega arith)
      (λ c. let ne : g.level y ≢ l + 1 = eqb-false _ _ c in
      let s = same_not y b (λ e. ne (ap g.level e ∙ bl)) in
      omega arith)

  -- a row is counted and pending as often as before; one that is skipped does not fit
  sum_low : (r : ℕ) → g.placed r ≡ true → g.level (g.at r) ≤ l
      → (times r (takes g v (look b).entries) + pending g after_visit (g.at r)) + times r (skips g v (look b).entries) ≡ pending g (p ∷ ps) (g.at r)
  sum_low r pr le =
      let ri = ok.stands r pr in
      let a = pending-after (g.at r) in
      let n = split_rows g look table fits v b l (look b).entries r dir.entries pr le in
      let s = spans-is (g.at r) ri le in
      let e = reach-split (g.at r) (omega arith) in
      omega arith

  sum_high : (r : ℕ) → g.placed r ≡ true → l < g.level (g.at r) → (times r (takes g v (look b).entries) ≡ 0) × (pending g after_visit (g.at r) ≡ pending g (p ∷ ps) (g.at r))
  sum_high r pr gt =
      let ri = ok.stands r pr in
      let a = pending-after (g.at r) in
      let n = none_noted g look table fits v b l (look b).entries (g.at r) gt in
      let t = none_taken g look table fits v b l (look b).entries r dir.entries pr gt in
      let up : g.carried r ≡ true = on_bool (g.carried r) (λ c. c) (λ c. let z = ok.settled r pr c in absurd (omega arith)) in
      let not_b = free r pr up in (
        t,
        on_bool (leb (g.level (g.at r)) (l + 1))
            (λ c. let le = leb-true _ _ c in
            let e = reach-split (g.at r) le in
            let lev : g.level (g.at r) ≡ l + 1 = omega arith in
            let self : g.above (g.at r) (l + 1) ≡ g.at r = ap (g.above (g.at r)) (sym lev) ∙ ok.itself (g.at r) ri in
            let none : same (g.above (g.at r) (l + 1)) b ≡ 0 = ap (λ (w : ℕ). same w b) self ∙ same_not (g.at r) b not_b in
            omega arith)
            (λ c. let gt2 : p.level < g.level (g.at r) = (let w = leb-false _ _ c in omega arith) in
            let z = left-high g p.stamp p.level zs (g.at r) gt2 in
            let z2 = reach-high g p (g.at r) gt2 in
            omega arith),
      )

  -- a row that is taken now stands where nothing is pending any more
  passed_now : (r : ℕ) → g.placed r ≡ true → 1 ≤ times r (takes g v (look b).entries) → (y : ℕ) → g.inside y ≡ true → g.level y ≤ g.level (g.at r) → g.above y (g.level (g.at r)) ≡ g.at r → pending g after_visit y ≡ 0
  passed_now r pr k y yi le up =
      on_bool (leb (g.level (g.at r)) l)
      (λ c.
      let al = leb-true _ _ c in
      let top = ok.below b bi in
      let same_up = λ (m : ℕ) (h : g.level (g.at r) ≤ m) (h2 : m < g.height). sym (ok.coherent y (g.level (g.at r)) m yi le h h2) ∙ ap (λ (w : ℕ). g.above w m) up in
      let yl : g.level y ≤ l = omega arith in
      let total_at = sum_low r pr al in
      let parts = split_rows g look table fits v b l (look b).entries r dir.entries pr al in
      let span = spans-is (g.at r) (ok.stands r pr) al in
      let once_at = q.blocks (g.at r) (ok.stands r pr) in
      let once_y = q.blocks y yi in
      let after_at = pending-after (g.at r) in
      let after_y = pending-after y in
      let n = noted_at g look table fits v b l (look b).entries y (g.at r) yl al (same_up l al (omega arith)) in
      let z1 = left-low g p.stamp p.level zs y (omega arith) in
      let z2 = left-low g p.stamp p.level zs (g.at r) (omega arith) in
      let z3 : times (g.above y p.level) zs ≡ times (g.above (g.at r) p.level) zs = ap (λ (w : ℕ). times w zs) (same_up p.level (omega arith) (omega arith)) in
      let h1 : same (g.above y (l + 1)) b ≡ same (g.above (g.at r) (l + 1)) b = ap (λ (w : ℕ). same w b) (same_up (l + 1) (omega arith) (omega arith)) in
      let e1 = reach-split y (omega arith) in
      let e2 = reach-split (g.at r) (omega arith) in
      omega arith)
      (λ c. let w = sum_high r pr (leb-false _ _ c) in absurd (omega arith))

  pub query-visit_dir : QueryOk g look must fits after_visit (takes g v (look b).entries ++ counted)
  query-visit_dir = record {
    noted = all_noted-append g look _ _ (notes_are g look table fits v b l (look b).entries dir.entries) (all_noted-append g look _ _ (left_are g look p b zs q.noted.0 at_b) q.noted.1);
    blocks = λ y yi. let a = pending-no_more y yi in let o = q.blocks y yi in omega arith;
    distinct = λ r. let s = times-append r (takes g v (look b).entries) counted in
        on_bool (g.placed r)
        (λ pr. let o = q.once r pr in on_bool (leb (g.level (g.at r)) l)
        (λ c. let w = sum_low r pr (leb-true _ _ c) in omega arith)
        (λ c. let w = sum_high r pr (leb-false _ _ c) in let d = q.distinct r in omega arith))
        (λ pr. let w = unplaced g look table fits v b l (look b).entries r dir.entries pr in let d = q.distinct r in omega arith);
    fitting = λ r h. let s = times-append r (takes g v (look b).entries) counted in
        on_bool (leb 1 (times r (takes g v (look b).entries)))
        (λ c. takes_fit g look table fits v b l (look b).entries judged r (leb-true _ _ c))
        (λ c. let w = leb-false _ _ c in q.fitting r (omega arith));
    once = λ r pr. let s = times-append r (takes g v (look b).entries) counted in
        let o = q.once r pr in
        on_bool (leb (g.level (g.at r)) l)
        (λ c. let w = sum_low r pr (leb-true _ _ c) in omega arith)
        (λ c. let w = sum_high r pr (leb-false _ _ c) in omega arith);
    whole = λ r pr m f. let s = times-append r (takes g v (look b).entries) counted in
        let o = q.whole r pr m f in
        on_bool (leb (g.level (g.at r)) l)
        (λ c. let w = sum_low r pr (leb-true _ _ c) in let n = skips_dont g look table fits v b l (look b).entries judged r f in omega arith)
        (λ c. let w = sum_high r pr (leb-false _ _ c) in omega arith);
    passed = λ r pr ca seen y yi le up. let s = times-append r (takes g v (look b).entries) counted in
        on_bool (leb 1 (times r counted))
        (λ c. let o = q.passed r pr ca (leb-true _ _ c) y yi le up in let m = pending-no_more y yi in omega arith)
        (λ c. let w = leb-false _ _ c in passed_now r pr (omega arith) y yi le up);
  }

-- a leaf: its rows that fit are counted
pub times-fitting : (fits : ℕ → Bool) (r : ℕ) (rs : List ℕ) → fits r ≡ true → times r (fitting fits rs) ≡ times r rs
times-fitting fits r [] f = refl
times-fitting fits r (x ∷ rs) f =
    let ih = times-fitting fits r rs f in
    on_bool (fits x)
    (λ c. rw c (omega arith))
    (λ c. let ne : r ≢ x = (λ e. let bad : true ≡ false = sym f ∙ ap fits e ∙ c in cc) in rw c (omega (arith, same_not r x ne)))

pub times-unfitting : (fits : ℕ → Bool) (r : ℕ) (rs : List ℕ) → fits r ≡ false → times r (fitting fits rs) ≡ 0
times-unfitting fits r [] f = refl
times-unfitting fits r (x ∷ rs) f =
    let ih = times-unfitting fits r rs f in
    on_bool (fits x)
    (λ c. let ne : r ≢ x = (λ e. let bad : true ≡ false = sym c ∙ ap fits (sym e) ∙ f in cc) in rw c (omega (arith, same_not r x ne)))
    (λ c. rw c ih)

-- what is reached from the rest of a leaf's group, and the leaf itself, are what was reached before
pub leaf-split : (g : Shape) (b : ℕ) (p : Noted) (zs : List ℕ) (ps : List Noted) → ShapeOk g → g.level b ≡ 0 → p.walk ≡ b ∷ zs → p.level ≡ 0
    → (y : ℕ) → g.inside y ≡ true → pending g (p ∷ ps) y ≡ same y b + pending g (left_over p.stamp p.level zs ++ ps) y
leaf-split g b p zs ps ok bl at_b pl y yi =
    let a = pending-append g (left_over p.stamp p.level zs) ps y in
    on_bool (leb (g.level y) 0)
    (λ c. let le = leb-true _ _ c in
    let le2 : g.level y ≤ p.level = omega arith in
    let lev : p.level ≡ g.level y = omega arith in
    let self : g.above y p.level ≡ y = ap (g.above y) lev ∙ ok.itself y yi in
    let e = reach-low g p y le2 in
    let z = left-low g p.stamp p.level zs y le2 in
    let d : times (g.above y p.level) p.walk ≡ same (g.above y p.level) b + times (g.above y p.level) zs = rw at_b refl in
    let s : same (g.above y p.level) b ≡ same y b = ap (λ (w : ℕ). same w b) self in
    omega arith)
    (λ c. let gt = leb-false _ _ c in
    let gt2 : p.level < g.level y = omega arith in
    let e = reach-high g p y gt2 in
    let z = left-high g p.stamp p.level zs y gt2 in
    let ne : y ≢ b = (λ w. let k : g.level y ≡ 0 = ap g.level w ∙ bl in absurd (omega arith)) in
    let s = same_not y b ne in
    omega arith)

module _ (g : Shape) (look : ℕ → Node) (must fits : ℕ → Bool) (b : ℕ) (p : Noted) (zs : List ℕ) (ps : List Noted) (counted : List ℕ)
    (ok : ShapeOk g) (leaf : (r : ℕ) → times r (look b).rows ≡ lies g b r) (bi : g.inside b ≡ true) (bl : g.level b ≡ 0)
    (free : (r : ℕ) → g.placed r ≡ true → g.carried r ≡ true → g.at r ≢ b)
    (at_b : p.walk ≡ b ∷ zs) (pl : p.level ≡ 0)
    (q : QueryOk g look must fits (p ∷ ps) counted) where
  abbrev pub after_leaf : List Noted
  after_leaf = left_over p.stamp p.level zs ++ ps

  split : (y : ℕ) → g.inside y ≡ true → pending g (p ∷ ps) y ≡ same y b + pending g after_leaf y
  split y yi = leaf-split g b p zs ps ok bl at_b pl y yi

  -- each row that stands at b lies in it
  lies-same : (r : ℕ) → g.placed r ≡ true → times r (look b).rows ≡ same (g.at r) b
  lies-same r pr = on_bool (g.carried r)
      (λ c. let n = same_not (g.at r) b (free r pr c) in leaf r ∙ (rw (pr, c) (sym n)))
      (λ c. leaf r ∙ (rw (pr, c) refl))

  pub query-visit_leaf : QueryOk g look must fits after_leaf (fitting fits (look b).rows ++ counted)
  query-visit_leaf = record {
    noted = all_noted-append g look _ _ (left_are g look p b zs q.noted.0 at_b) q.noted.1;
    blocks = λ y yi. let s = split y yi in let o = q.blocks y yi in omega arith;
    distinct = λ r. let s = times-append r (fitting fits (look b).rows) counted in let d = q.distinct r in
        on_bool (fits r)
        (λ f. let t = times-fitting fits r (look b).rows f in on_bool (g.placed r)
        (λ pr. let o = q.once r pr in let w = lies-same r pr in let z = split (g.at r) (ok.stands r pr) in omega arith)
        (λ pr. let none : times r (look b).rows ≡ 0 = leaf r ∙ (rw pr refl) in omega arith))
        (λ f. let t = times-unfitting fits r (look b).rows f in omega arith);
    fitting = λ r h. on_bool (fits r) (λ f. f)
        (λ f. let s = times-append r (fitting fits (look b).rows) counted in let t = times-unfitting fits r (look b).rows f in q.fitting r (omega arith));
    once = λ r pr. let s = times-append r (fitting fits (look b).rows) counted in
        let o = q.once r pr in let w = lies-same r pr in let z = split (g.at r) (ok.stands r pr) in
        on_bool (fits r)
        (λ f. let t = times-fitting fits r (look b).rows f in omega arith)
        (λ f. let t = times-unfitting fits r (look b).rows f in omega arith);
    whole = λ r pr m f. let s = times-append r (fitting fits (look b).rows) counted in
        let o = q.whole r pr m f in let w = lies-same r pr in let z = split (g.at r) (ok.stands r pr) in
        let t = times-fitting fits r (look b).rows f in omega arith;
    passed = λ r pr ca seen y yi le up.
        let none : times r (look b).rows ≡ 0 = lies-same r pr ∙ same_not (g.at r) b (free r pr ca) in
        let s = times-append r (fitting fits (look b).rows) counted in
        let z = split y yi in
        on_bool (fits r)
        (λ f. let t = times-fitting fits r (look b).rows f in let o = q.passed r pr ca (omega arith) y yi le up in omega arith)
        (λ f. let t = times-unfitting fits r (look b).rows f in let o = q.passed r pr ca (omega arith) y yi le up in omega arith);
  }

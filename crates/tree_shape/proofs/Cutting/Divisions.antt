-- The tree stays one where a head is divided
use Rattle.std.proofs.{Common.{◌≡◌, ◌≢◌, ℕ, ◌+◌, ◌-◌, ◌<◌, ◌≤◌, ◌⊎◌, inl, inr, Bool, true, false, cond, eqb, leb, List, [], ◌∷◌, refl, sym, ap, ◌∙◌, subst, arith}, lemmas.Bool.{eqb-true, eqb-false, leb-true, leb-false}}
use Rattle.dc_node.specs.declared.entry.Entry.{Entry}
use Rattle.list_words.specs.Counts.{Among, Each, same, times, total}
use Rattle.list_words.proofs.{Each.{each-both, each-of}, Times.{same_is, same_not, each-times}, Totals.total-same, Truth.{on_bool, eqb-self}}
use Rattle.tree_shape.specs.{Shape.{Node, Shape, ShapeOk, Table}, Trees.{DirOk, EntryOk, TreeOk, lies}, Walks.{IsNoted, IsWalk, Noted, beneath, noted_of, reach}}
use Rattle.tree_shape.proofs.{Cutting.Relations.{Divided, DividedItems, IsSumOf, Joined, Parted, grown, part_rows, parted, put_behind}, Cutting.Walks.{put_behind-at, times-put_behind_other, times-put_behind_new}, Reading.Queries.{reach-low, reach-high, not_on, apart, noted-divided, reach-at}, Reading.Visits.spans, Whole.Tails.{IsInTail, group-noted, group-members, head-off, behind-head, walk-behind}}

module _ (g g2 : Shape) (k c n : ℕ) (ok : ShapeOk g) (d : Divided g g2 k c n) where
  old-apart : (y : ℕ) → g.inside y ≡ true → y ≢ n
  old-apart y i = apart g y n i d.fresh

  before : (y : ℕ) → y ≢ n → g2.inside y ≡ true → g.inside y ≡ true
  before y yn i = sym (d.inside y yn) ∙ i

  below_k : k < g.height
  below_k = let b = ok.below c d.c_inside in let e = d.c_level in omega arith

  new-higher : (l : ℕ) → k ≤ l → l < g.height → (g2.inside (g2.above n l) ≡ true) × (g2.level (g2.above n l) ≡ l)
  new-higher l le lt = on_bool (eqb l k)
      (λ q. let e = eqb-true _ _ q in rw (e, d.new_itself) (d.new_inside, d.new_level))
      (λ q. let ne = eqb-false _ _ q in
      let cl = d.c_level in
      let h = ok.higher c l d.c_inside (omega arith) lt in
      let zn = old-apart (g.above c l) h.0 in
      rw (d.new_above l (omega arith)) (d.inside _ zn ∙ h.0, d.level _ zn ∙ h.1))

  old-higher : (y l : ℕ) → g.inside y ≡ true → g.level y ≤ l → l < g.height → (g2.inside (g2.above y l) ≡ true) × (g2.level (g2.above y l) ≡ l)
  old-higher y l i le lt =
      let h = ok.higher y l i le lt in
      let zn = old-apart (g.above y l) h.0 in
      elim (d.above y l i le) [
        | inl e ↦ rw e (d.inside _ zn ∙ h.0, d.level _ zn ∙ h.1)
        | inr w ↦ rw w.2 (d.new_inside, d.new_level ∙ sym w.0)
      ]

  -- above a block on level k or higher nothing has changed
  above-high : (y m : ℕ) → g.inside y ≡ true → g.level y ≤ m → k ≤ g.level y → g2.above y m ≡ g.above y m
  above-high y m i le hi = elim (d.above y m i le) [ inl e ↦ e | inr w ↦ (let a = w.3 in let b = w.0 in absurd (omega arith)) ]

  above-not_k : (y m : ℕ) → g.inside y ≡ true → g.level y ≤ m → m ≢ k → g2.above y m ≡ g.above y m
  above-not_k y m i le ne = elim (d.above y m i le) [ inl e ↦ e | inr w ↦ absurd (ne w.0) ]

  new-coherent : (l m : ℕ) → k ≤ l → l ≤ m → m < g.height → g2.above (g2.above n l) m ≡ g2.above n m
  new-coherent l m kl lm lt = on_bool (eqb l k)
      (λ q. let e = eqb-true _ _ q in rw (e, d.new_itself) refl)
      (λ q. let ne = eqb-false _ _ q in
      let cl = d.c_level in
      let h = ok.higher c l d.c_inside (omega arith) (omega arith) in
      let hl = h.1 in
      rw (d.new_above l (omega arith), d.new_above m (omega arith))
      (above-high (g.above c l) m h.0 (omega arith) (omega arith) ∙ ok.coherent c l m d.c_inside (omega arith) lm lt))

  old-coherent : (y l m : ℕ) → g.inside y ≡ true → g.level y ≤ l → l ≤ m → m < g.height → g2.above (g2.above y l) m ≡ g2.above y m
  old-coherent y l m i le lm lt =
      let h = ok.higher y l i le (omega arith) in
      let hl = h.1 in
      let cl = d.c_level in
      elim (d.above y l i le) [
        | inr w ↦ (let lk = w.0 in rw w.2 (on_bool (eqb m k)
            (λ q. let e = eqb-true _ _ q in rw e (d.new_itself ∙ sym w.2 ∙ ap (g2.above y) lk))
            (λ q. let ne = eqb-false _ _ q in
            d.new_above m (omega arith) ∙ ap (λ (x : ℕ). g.above x m) (sym w.1) ∙ ok.coherent y l m i le lm lt ∙ sym (above-not_k y m i (omega arith) ne))))
        | inl e ↦ rw e (on_bool (eqb m k)
            (λ q. let mk = eqb-true _ _ q in on_bool (eqb l k)
            (λ q2. let lk = eqb-true _ _ q2 in
            let ml : m ≡ l = omega arith in
            let self : g.above (g.above y l) m ≡ g.above y l = ap (g.above (g.above y l)) (ml ∙ sym h.1) ∙ ok.itself (g.above y l) h.0 in
            above-high (g.above y l) m h.0 (omega arith) (omega arith) ∙ self ∙ sym e ∙ ap (g2.above y) (sym ml))
            (λ q2. let lk = eqb-false _ _ q2 in rw mk (d.together y l i le (omega arith))))
            (λ q. let ne = eqb-false _ _ q in
            above-not_k (g.above y l) m h.0 (omega arith) ne ∙ ok.coherent y l m i le lm lt ∙ sym (above-not_k y m i (omega arith) ne)))
      ]

  pub shape-divided : ShapeOk g2
  shape-divided =
      let hh = d.height in
      let nl = d.new_level in
      record {
        itself = λ y i. on_bool (eqb y n)
            (λ q. let e = eqb-true _ _ q in rw (e, d.new_level) d.new_itself)
            (λ q. let ne = eqb-false _ _ q in let i1 = before y ne i in
            rw (d.level y ne) (elim (d.above y (g.level y) i1 (omega arith)) [
              | inl e ↦ e ∙ ok.itself y i1
              | inr w ↦ (let a = w.3 in absurd (omega arith))
            ]));
        below = λ y i. on_bool (eqb y n)
            (λ q. let e = eqb-true _ _ q in let b = below_k in rw e (omega arith))
            (λ q. let ne = eqb-false _ _ q in let b = ok.below y (before y ne i) in let e = d.level y ne in omega arith);
        higher = λ y l i le lt. on_bool (eqb y n)
            (λ q. let e = eqb-true _ _ q in let le2 : g2.level n ≤ l = rw e at le in rw e (new-higher l (omega arith) (omega arith)))
            (λ q. let ne = eqb-false _ _ q in let e = d.level y ne in old-higher y l (before y ne i) (omega arith) (omega arith));
        coherent = λ y l m i le lm lt. on_bool (eqb y n)
            (λ q. let e = eqb-true _ _ q in let le2 : g2.level n ≤ l = rw e at le in rw e (new-coherent l m (omega arith) lm (omega arith)))
            (λ q. let ne = eqb-false _ _ q in let e = d.level y ne in old-coherent y l m (before y ne i) (omega arith) lm (omega arith));
        stands = λ r p. let p1 = sym (d.placed r) ∙ p in let s = ok.stands r p1 in
            elim (d.at r p1) [
              | inl e ↦ rw e (d.inside _ (old-apart _ s) ∙ s)
              | inr w ↦ rw w.3 d.new_inside
            ];
        settled = λ r p f. let p1 = sym (d.placed r) ∙ p in let s = ok.stands r p1 in
            elim (d.at r p1) [
              | inl e ↦ rw e (d.level _ (old-apart _ s) ∙ ok.settled r p1 (sym (d.carried r) ∙ f))
              | inr w ↦ rw w.3 (d.new_level ∙ w.0)
            ];
      }

module _ (g g2 : Shape) (look look2 : ℕ → Node) (table : Table) (k c n t : ℕ) (ok : ShapeOk g) (tree : TreeOk g look table) (d : DividedItems g g2 look look2 k c n t) where
  -- an entry elsewhere: its group has n behind c
  entry-grown : (b b2 l : ℕ) (e : Entry) → e.stamp ≢ t → g2.group e.child ≡ put_behind c n (g.group e.child) → g2.below e.child ≡ g.below e.child
      → (l ≡ k → same (g2.head n) e.child ≡ same c e.child) → (l ≡ k → (y : ℕ) → y ≢ n → same (g2.head y) e.child ≡ same (g.head y) e.child)
      → EntryOk g look table l e → EntryOk g2 look2 table l e
  entry-grown b b2 l e st gr be hd hs w =
      let v = d.div in
      let p = noted_of g l e in
      let th : IsNoted g2 look2 (grown c n p) = noted-divided g g2 look k c n ok v look2 t p d.relinked st w.group in
      let cn = old-apart g g2 k c n ok v c v.c_inside in
      record {
        group = rw gr th;
        members = λ y i lv. rw gr (on_bool (eqb y n)
            (λ q. let yn = eqb-true _ _ q in
            let lk : l ≡ k = sym lv ∙ ap g2.level yn ∙ v.new_level in
            let a = times-put_behind_new c n (g.group e.child) cn in
            let z = not_on g look p n w.group v.fresh in
            let m : times c (g.group e.child) ≡ same c e.child = w.members c v.c_inside (v.c_level ∙ sym lk) ∙ ap (λ (x : ℕ). same x e.child) d.c_head in
            let h = hd lk in
            rw yn (omega arith))
            (λ q. let yn = eqb-false _ _ q in
            let yl : g.level y ≡ l = sym (v.level y yn) ∙ lv in
            let heads : same (g2.head y) e.child ≡ same (g.head y) e.child = on_bool (eqb l k)
            (λ z. hs (eqb-true _ _ z) y yn)
            (λ z. elim (d.head y yn) [ inl u ↦ ap (λ (x : ℕ). same x e.child) u | inr u ↦ absurd (eqb-false _ _ z (sym yl ∙ u.0)) ]) in
            times-put_behind_other c n y (g.group e.child) yn ∙ w.members y (before g g2 k c n ok v y yn i) yl ∙ sym heads));
        rows = λ r. rw (be, gr) (w.rows r ∙ on_bool (g.placed r)
            (λ pr. rw (v.placed r, pr) (sym (reach-at g g2 look k c n ok v p r w.group pr)))
            (λ pr. rw (v.placed r, pr) refl));
        summary = subst (λ (ns : List ℕ). IsSumOf table ns e) (sym be) w.summary;
      }

  spans-grown : (y : ℕ) (es : List Entry) → y ≢ n → Each (λ e. g2.group e.child ≡ put_behind c n (g.group e.child)) es → spans g2 y es ≡ spans g y es
  spans-grown y [] yn h = refl
  spans-grown y (e ∷ es) yn h =
      let a : times y (g2.group e.child) ≡ times y (g.group e.child) = ap (times y) h.0 ∙ times-put_behind_other c n y (g.group e.child) yn in
      omega (arith, spans-grown y es yn h.1)

  spans-new : (b l : ℕ) (es : List Entry) → Each (EntryOk g look table l) es → Each (λ e. g2.group e.child ≡ put_behind c n (g.group e.child)) es → spans g2 n es ≡ spans g c es
  spans-new b l [] w h = refl
  spans-new b l (e ∷ es) w h =
      let cn = old-apart g g2 k c n ok d.div c d.div.c_inside in
      let z = not_on g look (noted_of g l e) n w.0.group d.div.fresh in
      let a : times n (g2.group e.child) ≡ times c (g.group e.child) + times n (g.group e.child) = ap (times n) h.0 ∙ times-put_behind_new c n (g.group e.child) cn in
      omega (arith, spans-new b l es w.1 h.1)

  -- the block c or n, which has a part of c's entries
  part-ok : (b2 l : ℕ) (part : List Entry) → k ≡ l + 1 → Each (λ e. Among e (look c).entries) part
      → Each (λ e. g2.group e.child ≡ put_behind c n (g.group e.child)) part → Each (λ e. g2.below e.child ≡ g.below e.child) part
      → Each (EntryOk g2 look2 table l) part
  part-ok b2 l part kl of gr be =
      let v = d.div in
      let lev : g.level c ≡ l + 1 = v.c_level ∙ kl in
      let dir = tree.dirs c l v.c_inside lev in
      let w = each-of (EntryOk g look table l) (look c).entries part dir.entries of in
      let s = each-of (λ (e : Entry). e.stamp ≢ t) (look c).entries part (d.waits c l v.c_inside lev) of in
      let a = each-both (EntryOk g look table l) (λ (e : Entry). e.stamp ≢ t) (λ (e : Entry). (EntryOk g look table l e × (e.stamp ≢ t))) part (λ e x y. (x, y)) w s in
      let x = each-both (λ (e : Entry). g2.group e.child ≡ put_behind c n (g.group e.child)) (λ (e : Entry). g2.below e.child ≡ g.below e.child) (λ (e : Entry). (g2.group e.child ≡ put_behind c n (g.group e.child)) × (g2.below e.child ≡ g.below e.child)) part (λ e x y. (x, y)) gr be in
      each-both (λ (e : Entry). (EntryOk g look table l e × (e.stamp ≢ t))) (λ (e : Entry). (g2.group e.child ≡ put_behind c n (g.group e.child)) × (g2.below e.child ≡ g.below e.child)) (EntryOk g2 look2 table l) part
      (λ e y z. entry-grown c b2 l e y.1 z.0 z.1 (λ q. absurd (omega arith)) (λ q. absurd (omega arith)) y.0) a x

  -- of the blocks on the level below, n has those of the right part and c those of the left
  sides : (y l : ℕ) → k ≡ l + 1 → g.inside y ≡ true → g.level y ≡ l
      → (spans g y (look2 c).entries ≡ same (g2.above y k) c) × (spans g y (look2 n).entries ≡ same (g2.above y k) n)
  sides y l kl i lv =
      let v = d.div in
      let cn = old-apart g g2 k c n ok v c v.c_inside in
      let nc : n ≢ c = (λ w. cn (sym w)) in
      let lev : g.level c ≡ l + 1 = v.c_level ∙ kl in
      let dir = tree.dirs c l v.c_inside lev in
      let all = dir.each y i lv in
      let parts = d.entries (λ e. times y (g.group e.child)) in
      let upk : same (g.above y (l + 1)) c ≡ same (g.above y k) c = ap (λ (w : ℕ). same (g.above y w) c) (sym kl) in
      let yk : g.level y ≤ k = omega arith in
      let bk = below_k g g2 k c n ok v in
      on_bool (eqb (g.above y k) c)
      (λ q. let e = eqb-true _ _ q in
      let one = same_is (g.above y k) c e in
      let self : g.above y l ≡ y = ap (g.above y) (sym lv) ∙ ok.itself y i in
      let r0 = d.above_right y l i kl (omega arith) e in
      let r : same (g2.above y k) n ≡ spans g y (look2 n).entries = r0 ∙ ap (λ (w : ℕ). spans g w (look2 n).entries) self in
      elim (v.above y k i yk) [
        | inl e2 ↦ (let x : g2.above y k ≡ c = e2 ∙ e in
            let s1 : same (g2.above y k) c ≡ 1 = same_is _ _ x in
            let s2 : same (g2.above y k) n ≡ 0 = ap (λ (w : ℕ). same w n) x ∙ same_not c n cn in
            (omega arith, omega arith))
        | inr w ↦ (let x : g2.above y k ≡ n = w.2 in
            let s1 : same (g2.above y k) n ≡ 1 = same_is _ _ x in
            let s2 : same (g2.above y k) c ≡ 0 = ap (λ (w : ℕ). same w c) x ∙ same_not n c nc in
            (omega arith, omega arith))
      ])
      (λ q. let ne = eqb-false _ _ q in
      let none = same_not (g.above y k) c ne in
      elim (v.above y k i yk) [
        | inl e2 ↦ (let zi = (ok.higher y k i yk bk).0 in
            let s1 : same (g2.above y k) c ≡ 0 = ap (λ (w : ℕ). same w c) e2 ∙ none in
            let s2 : same (g2.above y k) n ≡ 0 = ap (λ (w : ℕ). same w n) e2 ∙ same_not _ n (old-apart g g2 k c n ok v _ zi) in
            (omega arith, omega arith))
        | inr w ↦ absurd (ne w.1)
      ])

  -- a row of c, in a leaf, lies in one of the two
  rows-c : k ≡ 0 → (r : ℕ) → times r (look2 c).rows + times r (look2 n).rows ≡ lies g c r
  rows-c kz r = let v = d.div in sym (d.rows r) ∙ tree.leaves c v.c_inside (v.c_level ∙ kz) r

  lies-settled : (h : Shape) (b r : ℕ) → h.placed r ≡ true → h.carried r ≡ false → lies h b r ≡ same (h.at r) b
  lies-settled h b r p f = rw (p, f) refl

  lies-out : (h : Shape) (b r : ℕ) → h.placed r ≡ false → lies h b r ≡ 0
  lies-out h b r p = rw p refl

  lies-carried : (h : Shape) (b r : ℕ) → h.placed r ≡ true → h.carried r ≡ true → lies h b r ≡ 0
  lies-carried h b r p f = rw (p, f) refl

  at-cases : (r : ℕ) → k ≡ 0 → g.placed r ≡ true → g.carried r ≡ false
      → (times r (look2 c).rows ≡ same (g2.at r) c) × (times r (look2 n).rows ≡ same (g2.at r) n)
  at-cases r kz p f =
      let v = d.div in
      let cn = old-apart g g2 k c n ok v c v.c_inside in
      let nc : n ≢ c = (λ w. cn (sym w)) in
      let sum = rows-c kz r ∙ lies-settled g c r p f in
      on_bool (eqb (g.at r) c)
      (λ q. let e = eqb-true _ _ q in
      let one = same_is (g.at r) c e in
      let rt = d.at_right r p e f in
      elim (v.at r p) [
        | inl e2 ↦ (let x : g2.at r ≡ c = e2 ∙ e in
            let s1 : same (g2.at r) c ≡ 1 = same_is _ _ x in
            let s2 : same (g2.at r) n ≡ 0 = ap (λ (w : ℕ). same w n) x ∙ same_not c n cn in
            (omega arith, omega arith))
        | inr w ↦ (let x : g2.at r ≡ n = w.3 in
            let s1 : same (g2.at r) n ≡ 1 = same_is _ _ x in
            let s2 : same (g2.at r) c ≡ 0 = ap (λ (w : ℕ). same w c) x ∙ same_not n c nc in
            (omega arith, omega arith))
      ])
      (λ q. let ne = eqb-false _ _ q in
      let none = same_not (g.at r) c ne in
      elim (v.at r p) [
        | inl e2 ↦ (let s1 : same (g2.at r) c ≡ 0 = ap (λ (w : ℕ). same w c) e2 ∙ none in
            let s2 : same (g2.at r) n ≡ 0 = ap (λ (w : ℕ). same w n) e2 ∙ same_not _ n (old-apart g g2 k c n ok v _ (ok.stands r p)) in
            (omega arith, omega arith))
        | inr w ↦ absurd (ne w.1)
      ])

  lies-at_two : (b r : ℕ) → k ≡ 0 → (times r (look2 b).rows ≤ times r (look c).rows) → (g.placed r ≡ true → g.carried r ≡ false → times r (look2 b).rows ≡ same (g2.at r) b) → times r (look2 b).rows ≡ lies g2 b r
  lies-at_two b r kz le two =
      let v = d.div in
      let old = tree.leaves c v.c_inside (v.c_level ∙ kz) r in
      on_bool (g.placed r)
      (λ p. on_bool (g.carried r)
      (λ f. let z = lies-carried g c r p f in let y = lies-carried g2 b r (v.placed r ∙ p) (v.carried r ∙ f) in omega arith)
      (λ f. two p f ∙ sym (lies-settled g2 b r (v.placed r ∙ p) (v.carried r ∙ f))))
      (λ p. let z = lies-out g c r p in let y = lies-out g2 b r (v.placed r ∙ p) in omega arith)

  lies-divided : (b : ℕ) → g2.inside b ≡ true → g2.level b ≡ 0 → (r : ℕ) → times r (look2 b).rows ≡ lies g2 b r
  lies-divided b i lv r =
      let v = d.div in
      let parts = d.rows r in
      on_bool (eqb b n)
      (λ q. let e = eqb-true _ _ q in
      let kz : k ≡ 0 = sym v.new_level ∙ ap g2.level (sym e) ∙ lv in
      rw e (lies-at_two n r kz (omega arith) (λ p f. (at-cases r kz p f).1)))
      (λ q. let bn = eqb-false _ _ q in
      let i1 = before g g2 k c n ok v b bn i in
      let lv1 : g.level b ≡ 0 = sym (v.level b bn) ∙ lv in
      on_bool (eqb b c)
      (λ q2. let e = eqb-true _ _ q2 in
      let kz : k ≡ 0 = sym v.c_level ∙ ap g.level (sym e) ∙ lv1 in
      rw e (lies-at_two c r kz (omega arith) (λ p f. (at-cases r kz p f).0)))
      (λ q2. let bc = eqb-false _ _ q2 in
      let old = tree.leaves b i1 lv1 r in
      rw (d.other_rows b bc bn) (old ∙ on_bool (g.placed r)
      (λ p. on_bool (g.carried r)
      (λ f. lies-carried g b r p f ∙ sym (lies-carried g2 b r (v.placed r ∙ p) (v.carried r ∙ f)))
      (λ f. lies-settled g b r p f ∙ elim (v.at r p) [
        | inl e2 ↦ ap (λ (w : ℕ). same w b) (sym e2)
        | inr w ↦ (let x : same (g.at r) b ≡ 0 = same_not _ b (λ h. bc (sym h ∙ w.1)) in
            let y : same (g2.at r) b ≡ 0 = same_not _ b (λ h. bn (sym h ∙ w.3)) in
            x ∙ sym y)
      ]
      ∙ sym (lies-settled g2 b r (v.placed r ∙ p) (v.carried r ∙ f))))
      (λ p. lies-out g b r p ∙ sym (lies-out g2 b r (v.placed r ∙ p))))))

  heads-divided : g2.inside (g2.head n) ≡ true → (y : ℕ) → g2.inside y ≡ true → g2.inside (g2.head y) ≡ true
  heads-divided nh y i =
      let v = d.div in
      on_bool (eqb y n)
      (λ q. let e = eqb-true _ _ q in rw e nh)
      (λ q. let yn = eqb-false _ _ q in
      let h = tree.heads y (before g g2 k c n ok v y yn i) in
      elim (d.head y yn) [
        | inl e ↦ rw e (v.inside _ (old-apart g g2 k c n ok v _ h) ∙ h)
        | inr w ↦ rw w.2 v.new_inside
      ])

-- how often a row is beneath the entries of a directory on the level above l

pub sums-low : (g : Shape) (look : ℕ → Node) (table : Table) (l r : ℕ) (es : List Entry) → Each (EntryOk g look table l) es → g.placed r ≡ true → g.level (g.at r) ≤ l → total (λ e. times r (g.below e.child)) es ≡ spans g (g.above (g.at r) l) es
sums-low g look table l r [] w p le = refl
sums-low g look table l r (e ∷ es) w p le =
    let low = reach-low g (noted_of g l e) (g.at r) le in
    let rows : times r (g.below e.child) ≡ times (g.above (g.at r) l) (g.group e.child) = w.0.rows r ∙ (rw p low) in
    omega (arith, sums-low g look table l r es w.1 p le)

pub sums-high : (g : Shape) (look : ℕ → Node) (table : Table) (l r : ℕ) (es : List Entry) → Each (EntryOk g look table l) es → g.placed r ≡ true → l < g.level (g.at r) → total (λ e. times r (g.below e.child)) es ≡ 0
sums-high g look table l r [] w p gt = refl
sums-high g look table l r (e ∷ es) w p gt =
    let high = reach-high g (noted_of g l e) (g.at r) gt in
    let rows : times r (g.below e.child) ≡ 0 = w.0.rows r ∙ (rw p high) in
    omega (arith, sums-high g look table l r es w.1 p gt)

pub sums-out : (g : Shape) (look : ℕ → Node) (table : Table) (l r : ℕ) (es : List Entry) → Each (EntryOk g look table l) es → g.placed r ≡ false → total (λ e. times r (g.below e.child)) es ≡ 0
sums-out g look table l r [] w p = refl
sums-out g look table l r (e ∷ es) w p =
    let rows : times r (g.below e.child) ≡ 0 = w.0.rows r ∙ (rw p refl) in
    omega (arith, sums-out g look table l r es w.1 p)

-- The new block joins the group.

module _ (g g2 : Shape) (look look2 : ℕ → Node) (table : Table) (k c n t : ℕ) (ok : ShapeOk g) (tree : TreeOk g look table) (j : Joined g g2 look look2 k c n t) where
  grows : (es : List Entry) → Each (λ e. g2.group e.child ≡ put_behind c n (g.group e.child)) es
  grows [] = tt
  grows (e ∷ es) = (j.group e.child, grows es)

  stays : (es : List Entry) → Each (λ e. g2.below e.child ≡ g.below e.child) es
  stays [] = tt
  stays (e ∷ es) = (j.below e.child, stays es)

  part-dir : (b2 l : ℕ) (part : List Entry) → k ≡ l + 1 → Each (λ e. Among e (look c).entries) part → part ≡ (look2 b2).entries
      → ((y : ℕ) → g.inside y ≡ true → g.level y ≡ l → spans g y part ≡ same (g2.above y k) b2) → DirOk g2 look2 table b2 l
  part-dir b2 l part kl of is side =
      let v = j.items.div in
      record {
        entries = subst (Each (EntryOk g2 look2 table l)) is (part-ok g g2 look look2 table k c n t ok tree j.items b2 l part kl of (grows part) (stays part));
        each = λ y i lv.
            let nl = v.new_level in
            let yn : y ≢ n = (λ w. let a : g2.level y ≡ g2.level n = ap g2.level w in absurd (omega arith)) in
            let s = spans-grown g g2 look look2 table k c n t ok tree j.items y part yn (grows part) in
            let x = side y (before g g2 k c n ok v y yn i) (sym (v.level y yn) ∙ lv) in
            rw (← is, ← kl) (s ∙ x);
      }

  other-dir : (b l : ℕ) → b ≢ c → b ≢ n → g.inside b ≡ true → g.level b ≡ l + 1 → DirOk g2 look2 table b l
  other-dir b l bc bn bi bl =
      let v = j.items.div in
      let dir = tree.dirs b l bi bl in
      let w = each-both (EntryOk g look table l) (λ (e : Entry). e.stamp ≢ t) (EntryOk g2 look2 table l) (look b).entries
      (λ e x st. entry-grown g g2 look look2 table k c n t ok tree j.items b b l e st (j.group e.child) (j.below e.child) (λ q. ap (λ (x : ℕ). same x e.child) j.new_head) (λ q y yn. ap (λ (x : ℕ). same x e.child) (j.head y yn)) x) dir.entries (j.items.waits b l bi bl) in
      let is = j.other b bc bn in
      record {
        entries = rw is w;
        each = λ y i lv. rw is (on_bool (eqb y n)
            (λ q. let yn = eqb-true _ _ q in
            let lk : l ≡ k = sym lv ∙ ap g2.level yn ∙ v.new_level in
            let s = spans-new g g2 look look2 table k c n t ok tree j.items b l (look b).entries dir.entries (grows (look b).entries) in
            let x = dir.each c v.c_inside (v.c_level ∙ sym lk) in
            rw yn (s ∙ x ∙ ap (λ (w : ℕ). same w b) (sym (v.new_above (l + 1) (omega arith)))))
            (λ q. let yn = eqb-false _ _ q in
            let yi = before g g2 k c n ok v y yn i in
            let yl : g.level y ≡ l = sym (v.level y yn) ∙ lv in
            spans-grown g g2 look look2 table k c n t ok tree j.items y (look b).entries yn (grows (look b).entries)
            ∙ dir.each y yi yl
            ∙ elim (v.above y (l + 1) yi (omega arith)) [
              | inl e ↦ ap (λ (w : ℕ). same w b) (sym e)
              | inr w ↦ (let x : same (g.above y (l + 1)) b ≡ 0 = same_not _ b (λ h. bc (sym h ∙ w.1)) in
                  let z : same (g2.above y (l + 1)) b ≡ 0 = same_not _ b (λ h. bn (sym h ∙ w.2)) in
                  x ∙ sym z)
            ]));
      }

  pub tree-joined : TreeOk g2 look2 table
  tree-joined =
      let v = j.items.div in
      record {
        shape = shape-divided g g2 k c n ok v;
        heads = heads-divided g g2 look look2 table k c n t ok tree j.items (rw j.new_head (v.inside c (old-apart g g2 k c n ok v c v.c_inside) ∙ v.c_inside));
        leaves = lies-divided g g2 look look2 table k c n t ok tree j.items;
        dirs = λ b l i lv. on_bool (eqb b n)
            (λ q. let e = eqb-true _ _ q in
            let kl : k ≡ l + 1 = sym v.new_level ∙ ap g2.level (sym e) ∙ lv in
            rw e (part-dir n l (look2 n).entries kl j.items.right refl (λ y yi yl. (sides g g2 look look2 table k c n t ok tree j.items y l kl yi yl).1)))
            (λ q. let bn = eqb-false _ _ q in
            let bi = before g g2 k c n ok v b bn i in
            let bl : g.level b ≡ l + 1 = sym (v.level b bn) ∙ lv in
            on_bool (eqb b c)
            (λ q2. let e = eqb-true _ _ q2 in
            let kl : k ≡ l + 1 = sym v.c_level ∙ ap g.level (sym e) ∙ bl in
            rw e (part-dir c l (look2 c).entries kl j.items.left refl (λ y yi yl. (sides g g2 look look2 table k c n t ok tree j.items y l kl yi yl).0)))
            (λ q2. other-dir b l (eqb-false _ _ q2) bn bi bl));
      }

pub put_behind-none : (c n : ℕ) (ws : List ℕ) → times c ws ≡ 0 → put_behind c n ws ≡ ws
put_behind-none c n [] h = refl
put_behind-none c n (y ∷ ys) h =
    let ih = put_behind-none c n ys (omega arith) in
    on_bool (eqb y c)
    (λ q. let e = same_is c y (sym (eqb-true _ _ q)) in absurd (omega arith))
    (λ q. rw q (ap (λ (w : List ℕ). y ∷ w) ih))

pub parted-at : (c : ℕ) (a b e : Entry) (es : List Entry) → eqb e.child c ≡ true → parted c a b (e ∷ es) ≡ a ∷ b ∷ parted c a b es
parted-at c a b e es h = rw h refl

pub parted-past : (c : ℕ) (a b e : Entry) (es : List Entry) → eqb e.child c ≡ false → parted c a b (e ∷ es) ≡ e ∷ parted c a b es
parted-past c a b e es h = rw h refl

-- what is beneath each block of a walk is what is beneath the walk
pub beneath-each : (p q : Bool) (z : ℕ) (ws : List ℕ) → total (λ y. cond p (cond q (times z (y ∷ [])) 0) 0) ws ≡ cond p (cond q (times z ws) 0) 0
beneath-each true true z [] = refl
beneath-each true true z (y ∷ ys) = omega (arith, beneath-each true true z ys)
beneath-each true false z [] = refl
beneath-each true false z (y ∷ ys) = omega (arith, beneath-each true false z ys)
beneath-each false q z [] = refl
beneath-each false q z (y ∷ ys) = omega (arith, beneath-each false q z ys)

-- c is a group, and n is the head of another one; and the parent has an entry for each.

module _ (g g2 : Shape) (look look2 : ℕ → Node) (table : Table) (k c n t top : ℕ) (tail : List ℕ) (a b old : Entry) (ok : ShapeOk g) (tree : TreeOk g look table) (j : Parted g g2 look look2 table k c n t top tail a b old) where
  child-in : (x l : ℕ) (e : Entry) → EntryOk g look table l e → (g.inside e.child ≡ true) × (g.level e.child ≡ l)
  child-in x l e w =
      let u = w.group.walks.1 in
      w.group.cells e.child (rw u (omega (arith, same_is e.child e.child refl)))

  c-not-n : c ≢ n
  c-not-n = old-apart g g2 k c n ok j.items.div c j.items.div.c_inside

  abbrev was : Noted
  was = record { cell = c; stamp = old.stamp; level = k; walk = c ∷ tail }

  was-noted : IsNoted g look was
  was-noted = group-noted g look table k c tail old j.old_ok j.old_child j.group_was

  members-was : (y : ℕ) → g.inside y ≡ true → g.level y ≡ k → times y (c ∷ tail) ≡ same (g.head y) c
  members-was = group-members g look table k c tail old j.old_ok j.old_child j.group_was

  c-off : times c tail ≡ 0
  c-off = head-off g look table k c tail old j.old_ok j.old_child j.group_was

  n-off : times n tail ≡ 0
  n-off = let z = not_on g look was n was-noted j.items.div.fresh in omega arith

  on-tail : (y : ℕ) → 1 ≤ times y tail → IsInTail g k c tail y
  on-tail = behind-head g look table k c tail old j.old_ok j.old_child j.group_was

  -- the group of another child is as it was
  grows-other : (x l : ℕ) (e : Entry) → EntryOk g look table l e → e.child ≢ c → g2.group e.child ≡ put_behind c n (g.group e.child)
  grows-other x l e w ne =
      let v = j.items.div in
      let en = old-apart g g2 k c n ok v e.child (child-in x l e w).0 in
      let none : times c (g.group e.child) ≡ 0 = on_bool (eqb (g.level c) l)
      (λ q. let lv = eqb-true _ _ q in w.members c v.c_inside lv ∙ ap (λ (y : ℕ). same y e.child) j.items.c_head ∙ same_not c e.child (λ h. ne (sym h)))
      (λ q. let lv = eqb-false _ _ q in on_bool (leb 1 (times c (g.group e.child)))
      (λ z. absurd (lv (w.group.cells c (leb-true _ _ z)).1))
      (λ z. let y = leb-false _ _ z in omega arith)) in
      j.group e.child ne en ∙ sym (put_behind-none c n (g.group e.child) none)

  entry-other : (x l : ℕ) (e : Entry) → EntryOk g look table l e → e.stamp ≢ t → e.child ≢ c → EntryOk g2 look2 table l e
  entry-other x l e w st ne =
      let v = j.items.div in
      let en = old-apart g g2 k c n ok v e.child (child-in x l e w).0 in
      let cz = same_not c e.child (λ h. ne (sym h)) in
      let nz = same_not n e.child (λ h. en (sym h)) in
      entry-grown g g2 look look2 table k c n t ok tree j.items x x l e st (grows-other x l e w ne) (j.below e.child ne en)
      (λ q. ap (λ (y : ℕ). same y e.child) j.new_head ∙ nz ∙ sym cz)
      (λ q y yn. elim (j.items.head y yn) [
        | inl u ↦ ap (λ (z : ℕ). same z e.child) u
        | inr u ↦ ap (λ (z : ℕ). same z e.child) u.2 ∙ nz ∙ sym (ap (λ (z : ℕ). same z e.child) u.1 ∙ cz)
      ])
      w

  -- no entry of another block leads to c
  not-c : (x l : ℕ) (es : List Entry) → (g.level c ≡ l → spans g c es ≡ 0) → Each (EntryOk g look table l) es → Each (λ e. e.child ≢ c) es
  not-c x l [] none w = tt
  not-c x l (e ∷ es) none w =
      let v = j.items.div in
      let ne : e.child ≢ c = (λ q.
      let lv : g.level c ≡ l = ap g.level (sym q) ∙ (child-in x l e w.0).1 in
      let m : times c (g.group e.child) ≡ same c e.child = w.0.members c v.c_inside lv ∙ ap (λ (y : ℕ). same y e.child) j.items.c_head in
      let o = same_is c e.child (sym q) in
      let z = none lv in
      absurd (omega arith)) in
      (ne, not-c x l es (λ lv. let z = none lv in omega arith) w.1)

  abbrev one : ℕ → Noted
  one x = record { cell = x; stamp = t; level = k; walk = x ∷ [] }

  beneath-in : (x r : ℕ) → g2.placed r ≡ true → beneath g2 (one x) r ≡ reach g2 (one x) (g2.at r)
  beneath-in x r p = rw p refl

  beneath-out : (x r : ℕ) → g2.placed r ≡ false → beneath g2 (one x) r ≡ 0
  beneath-out x r p = rw p refl

  one-low : (x y : ℕ) → g2.level y ≤ k → reach g2 (one x) y ≡ same (g2.above y k) x
  one-low x y le = let a = reach-low g2 (one x) y le in omega arith

  rows-zero : (x r : ℕ) → k ≡ 0 → g2.inside x ≡ true → g2.level x ≡ k → ((s : ℕ) → g2.placed s ≡ true → g2.carried s ≡ true → g2.at s ≢ x)
      → times r (look2 x).rows ≡ beneath g2 (one x) r
  rows-zero x r kz xi xl free =
      let v = j.items.div in
      let ok2 = shape-divided g g2 k c n ok v in
      let lie = lies-divided g g2 look look2 table k c n t ok tree j.items x xi (xl ∙ kz) r in
      on_bool (g2.placed r)
      (λ p.
      let si = ok2.stands r p in
      let self : g2.level (g2.at r) ≡ 0 → reach g2 (one x) (g2.at r) ≡ same (g2.at r) x = (λ z.
      one-low x (g2.at r) (omega arith) ∙ ap (λ (w : ℕ). same w x) (ap (g2.above (g2.at r)) (kz ∙ sym z) ∙ ok2.itself (g2.at r) si)) in
      on_bool (g2.carried r)
      (λ f.
      let z = lies-carried g g2 look look2 table k c n t ok tree j.items g2 x r p f in
      let zero : reach g2 (one x) (g2.at r) ≡ 0 = on_bool (leb (g2.level (g2.at r)) 0)
      (λ q. self (let y = leb-true _ _ q in omega arith) ∙ same_not (g2.at r) x (free r p f))
      (λ q. let y = leb-false _ _ q in reach-high g2 (one x) (g2.at r) (omega arith)) in
      lie ∙ z ∙ sym zero ∙ sym (beneath-in x r p))
      (λ f. lie ∙ lies-settled g g2 look look2 table k c n t ok tree j.items g2 x r p f ∙ sym (self (ok2.settled r p f)) ∙ sym (beneath-in x r p)))
      (λ p. lie ∙ lies-out g g2 look look2 table k c n t ok tree j.items g2 x r p ∙ sym (beneath-out x r p))

  rows-up : (x r l : ℕ) → k ≡ l + 1 → g2.inside x ≡ true → g2.level x ≡ k
      → ((y : ℕ) → g.inside y ≡ true → g.level y ≡ l → spans g y (look2 x).entries ≡ same (g2.above y k) x)
      → ((s : ℕ) → g2.placed s ≡ true → g2.carried s ≡ true → g2.at s ≢ x)
      → Each (EntryOk g look table l) (look2 x).entries
      → total (λ e. times r (g.below e.child)) (look2 x).entries ≡ beneath g2 (one x) r
  rows-up x r l kl xi xl side free w =
      let v = j.items.div in
      let bk = below_k g g2 k c n ok v in
      on_bool (g.placed r)
      (λ p.
      let si = ok.stands r p in
      let sn = old-apart g g2 k c n ok v (g.at r) si in
      let at2 : g2.at r ≡ g.at r = elim (v.at r p) [ inl e ↦ e | inr y ↦ (let z = y.0 in absurd (omega arith)) ] in
      let lv : g2.level (g.at r) ≡ g.level (g.at r) = v.level (g.at r) sn in
      let p2 : g2.placed r ≡ true = v.placed r ∙ p in
      let start : beneath g2 (one x) r ≡ reach g2 (one x) (g.at r) = beneath-in x r p2 ∙ ap (reach g2 (one x)) at2 in
      on_bool (leb (g.level (g.at r)) l)
      (λ q. let le = leb-true _ _ q in
      let h = ok.higher (g.at r) l si le (omega arith) in
      let s = side (g.above (g.at r) l) h.0 h.1 in
      let up = v.together (g.at r) l si le (omega arith) in
      sums-low g look table l r (look2 x).entries w p le ∙ s ∙ ap (λ (y : ℕ). same y x) up ∙ sym (one-low x (g.at r) (omega arith)) ∙ sym start)
      (λ q. let gt = leb-false _ _ q in
      let ca : g.carried r ≡ true = on_bool (g.carried r) (λ f. f) (λ f. let z = ok.settled r p f in absurd (omega arith)) in
      let ne : g.at r ≢ x = (λ e. free r p2 (v.carried r ∙ ca) (at2 ∙ e)) in
      let zero : reach g2 (one x) (g.at r) ≡ 0 = on_bool (leb (g.level (g.at r)) k)
      (λ z. let le = leb-true _ _ z in
      let lk : k ≡ g.level (g.at r) = omega arith in
      let self : g2.above (g.at r) k ≡ g.at r = above-high g g2 k c n ok v (g.at r) k si le (omega arith) ∙ ap (g.above (g.at r)) lk ∙ ok.itself (g.at r) si in
      one-low x (g.at r) (omega arith) ∙ ap (λ (y : ℕ). same y x) self ∙ same_not (g.at r) x ne)
      (λ z. let y = leb-false _ _ z in reach-high g2 (one x) (g.at r) (omega arith)) in
      sums-high g look table l r (look2 x).entries w p gt ∙ sym zero ∙ sym start))
      (λ p. sums-out g look table l r (look2 x).entries w p ∙ sym (beneath-out x r (v.placed r ∙ p)))

  -- the rows of a block x that is in one of the two groups
  one-rows : (x r : ℕ) → g2.inside x ≡ true → g2.level x ≡ k
      → ((y l : ℕ) → k ≡ l + 1 → g.inside y ≡ true → g.level y ≡ l → spans g y (look2 x).entries ≡ same (g2.above y k) x)
      → ((s : ℕ) → g2.placed s ≡ true → g2.carried s ≡ true → g2.at s ≢ x)
      → ((l : ℕ) → k ≡ l + 1 → Each (EntryOk g look table l) (look2 x).entries)
      → part_rows g (look2 x) k r ≡ beneath g2 (one x) r
  one-rows x r xi xl side free all =
      on_bool (eqb k 0)
      (λ q. let kz = eqb-true _ _ q in rw q (rows-zero x r kz xi xl free))
      (λ q. let kn = eqb-false _ _ q in rw q (rows-up x r (k - 1) (omega arith) xi xl (λ y i lv. side y (k - 1) (omega arith) i lv) free (all (k - 1) (omega arith))))

  -- the entries of c or n, which c had
  part-entries : (x l : ℕ) → k ≡ l + 1 → Each (λ e. Among e (look c).entries) (look2 x).entries → Each (EntryOk g look table l) (look2 x).entries
  part-entries x l kl of = let v = j.items.div in each-of (EntryOk g look table l) (look c).entries (look2 x).entries (tree.dirs c l v.c_inside (v.c_level ∙ kl)).entries of

  -- nobody carries a row at c or n
  free-two : (x : ℕ) → (x ≡ c) ⊎ (x ≡ n) → (s : ℕ) → g2.placed s ≡ true → g2.carried s ≡ true → g2.at s ≢ x
  free-two x which s p f e =
      let v = j.items.div in
      let p1 = sym (v.placed s) ∙ p in
      let f1 = sym (v.carried s) ∙ f in
      let at2 : g2.at s ≡ g.at s = elim (v.at s p1) [ inl q ↦ q | inr y ↦ (let bad : true ≡ false = sym f1 ∙ y.2 in cc) ] in
      elim which [
        | inl q ↦ j.items.free s p1 f1 (sym at2 ∙ e ∙ q)
        | inr q ↦ old-apart g g2 k c n ok v (g.at s) (ok.stands s p1) (sym at2 ∙ e ∙ q)
      ]

  -- where a block hangs, seen from a block other than c and n
  hangs : (x y l : ℕ) → x ≢ c → x ≢ n → g.inside y ≡ true → g.level y ≡ l → same (g.above y (l + 1)) x ≡ same (g2.above y (l + 1)) x
  hangs x y l xc xn yi yl =
      let v = j.items.div in
      elim (v.above y (l + 1) yi (omega arith)) [
        | inl e ↦ ap (λ (w : ℕ). same w x) (sym e)
        | inr w ↦ (let u : same (g.above y (l + 1)) x ≡ 0 = same_not _ x (λ h. xc (sym h ∙ w.1)) in
            let z : same (g2.above y (l + 1)) x ≡ 0 = same_not _ x (λ h. xn (sym h ∙ w.2)) in
            u ∙ sym z)
      ]

  c-rows : (r : ℕ) → part_rows g (look2 c) k r ≡ beneath g2 (one c) r
  c-rows r =
      let v = j.items.div in
      let cn = c-not-n in
      one-rows c r (v.inside c cn ∙ v.c_inside) (v.level c cn ∙ v.c_level) (λ y l kl i lv. (sides g g2 look look2 table k c n t ok tree j.items y l kl i lv).0) (free-two c (inl refl)) (λ l kl. part-entries c l kl j.items.left)

  n-rows : (r : ℕ) → part_rows g (look2 n) k r ≡ beneath g2 (one n) r
  n-rows r =
      let v = j.items.div in
      one-rows n r v.new_inside v.new_level (λ y l kl i lv. (sides g g2 look look2 table k c n t ok tree j.items y l kl i lv).1) (free-two n (inr refl)) (λ l kl. part-entries n l kl j.items.right)

  -- a block of the tail, which hasn't changed
  tail-rows : (x r : ℕ) → 1 ≤ times x tail → part_rows g (look2 x) k r ≡ beneath g2 (one x) r
  tail-rows x r h =
      let v = j.items.div in
      let o = on-tail x h in
      let xn = old-apart g g2 k c n ok v x o.inside in
      let xt : x ≢ top = (λ e. let u : g.level x ≡ g.level top = ap g.level e in let lx = o.level in let lt = j.top_level in absurd (omega arith)) in
      let is = j.other x o.apart xn xt in
      one-rows x r (v.inside x xn ∙ o.inside) (v.level x xn ∙ o.level)
      (λ y l kl yi yl. ap (spans g y) is ∙ (tree.dirs x l o.inside (o.level ∙ kl)).each y yi yl ∙ hangs x y l o.apart xn yi yl ∙ ap (λ (w : ℕ). same (g2.above y w) x) (sym kl))
      (λ s p f e.
      let p1 = sym (v.placed s) ∙ p in
      let f1 = sym (v.carried s) ∙ f in
      let at2 : g2.at s ≡ g.at s = elim (v.at s p1) [ inl q ↦ q | inr y ↦ (let bad : true ≡ false = sym f1 ∙ y.2 in cc) ] in
      let z : times x tail ≡ 0 = ap (λ (w : ℕ). times w tail) (sym e ∙ at2) ∙ j.free_tail s p1 f1 in
      absurd (omega arith))
      (λ l kl. subst (Each (EntryOk g look table l)) (sym is) (tree.dirs x l o.inside (o.level ∙ kl)).entries)

  -- the walks of the two groups

  walk-c : IsNoted g2 look2 (record { cell = c; stamp = t; level = k; walk = c ∷ [] })
  walk-c =
      let v = j.items.div in
      let bk = below_k g g2 k c n ok v in
      let hh = v.height in
      let cn = c-not-n in
      record {
        walks = ([], refl, j.items.relinked.head_stamp);
        low = omega arith;
        cells = λ y on. on_bool (eqb y c)
            (λ q. let e = eqb-true _ _ q in rw e (v.inside c cn ∙ v.c_inside, v.level c cn ∙ v.c_level))
            (λ q. let z = same_not y c (eqb-false _ _ q) in absurd (omega arith));
      }

  walk-n : IsNoted g2 look2 (record { cell = n; stamp = old.stamp; level = k; walk = n ∷ tail })
  walk-n =
      let w : IsNoted g2 look2 (grown c n was) = noted-divided g g2 look k c n ok j.items.div look2 t was j.items.relinked j.old_stamp was-noted in
      let is : put_behind c n (c ∷ tail) ≡ c ∷ n ∷ tail = put_behind-at c n c tail (eqb-self c) ∙ ap (λ (ws : List ℕ). c ∷ n ∷ ws) (put_behind-none c n tail c-off) in
      record {
        walks = (tail, refl, walk-behind look2 c n old.stamp tail (subst (IsWalk look2 c old.stamp) is w.walks));
        low = w.low;
        cells = λ y on. w.cells y (let u = ap (times y) is in omega arith);
      }

  entry-a : EntryOk g2 look2 table k a
  entry-a =
      let v = j.items.div in
      let cn = c-not-n in
      record {
        group = rw (j.a_child, j.a_stamp, j.group_c) walk-c;
        members = λ y i lv. rw (j.a_child, j.group_c) (on_bool (eqb y n)
            (λ q. let e = eqb-true _ _ q in rw (e, j.new_head) (omega arith))
            (λ q. let yn = eqb-false _ _ q in on_bool (leb 1 (times y tail))
            (λ z. let h = leb-true _ _ z in
            let s1 = same_not y c (on-tail y h).apart in
            let s2 : same (g2.head y) c ≡ 0 = ap (λ (w : ℕ). same w c) (j.tail_head y h) ∙ same_not n c (λ e. cn (sym e)) in
            omega arith)
            (λ z. let gt = leb-false _ _ z in
            let zero : times y tail ≡ 0 = omega arith in
            let m = members-was y (before g g2 k c n ok v y yn i) (sym (v.level y yn) ∙ lv) in
            rw (j.other_head y yn zero) (omega arith))));
        rows = λ r. rw (j.a_child, j.group_c) (j.below_c r ∙ c-rows r);
        summary = subst (λ (y : ℕ). IsSumOf table (g2.below y) a) (sym j.a_child) j.a_sum;
      }

  entry-b : EntryOk g2 look2 table k b
  entry-b =
      let v = j.items.div in
      record {
        group = rw (j.b_child, j.b_stamp, j.group_n) walk-n;
        members = λ y i lv. rw (j.b_child, j.group_n) (on_bool (eqb y n)
            (λ q. let e = eqb-true _ _ q in let z : times y tail ≡ 0 = ap (λ (w : ℕ). times w tail) e ∙ n-off in rw (e, j.new_head) (omega arith))
            (λ q. let yn = eqb-false _ _ q in
            let z1 = same_not y n yn in
            on_bool (leb 1 (times y tail))
            (λ z. let h = leb-true _ _ z in
            let once = (on-tail y h).once in
            let s : same (g2.head y) n ≡ 1 = same_is _ _ (j.tail_head y h) in
            omega arith)
            (λ z. let gt = leb-false _ _ z in
            let zero : times y tail ≡ 0 = omega arith in
            let hn : g.head y ≢ n = old-apart g g2 k c n ok v _ (tree.heads y (before g g2 k c n ok v y yn i)) in
            let z2 = same_not (g.head y) n hn in
            rw (j.other_head y yn zero) (omega arith))));
        rows = λ r. rw (j.b_child, j.group_n) (j.below_n r
            ∙ total-same (λ y. part_rows g (look2 y) k r ≡ beneath g2 (one y) r) (λ y. part_rows g (look2 y) k r) (λ y. beneath g2 (one y) r) (n ∷ tail) (λ y e. e) (n-rows r, each-times (λ y. part_rows g (look2 y) k r ≡ beneath g2 (one y) r) tail (λ y h. tail-rows y r h))
            ∙ beneath-each (g2.placed r) (leb (g2.level (g2.at r)) k) (g2.above (g2.at r) k) (n ∷ tail));
        summary = subst (λ (y : ℕ). IsSumOf table (g2.below y) b) (sym j.b_child) j.b_sum;
      }

  entries-parted : (l : ℕ) (es : List Entry) → l ≡ k → Each (EntryOk g look table l) es → Each (λ e. e.stamp ≢ t) es → Each (EntryOk g2 look2 table l) (parted c a b es)
  entries-parted l [] lk w st = tt
  entries-parted l (e ∷ es) lk w st =
      let ih = entries-parted l es lk w.1 st.1 in
      on_bool (eqb e.child c)
      (λ q. let ea : EntryOk g2 look2 table l a = rw lk entry-a in let eb : EntryOk g2 look2 table l b = rw lk entry-b in rw (parted-at c a b e es q) (ea, (eb, ih)))
      (λ q. rw (parted-past c a b e es q) (entry-other top l e w.0 st.0 (eqb-false _ _ q), ih))

  -- an old block is in the groups as often as before, and n as often as c was
  spans-parted : (y l : ℕ) (es : List Entry) → y ≢ n → Each (EntryOk g look table l) es → spans g2 y (parted c a b es) ≡ spans g y es
  spans-parted y l [] yn w = refl
  spans-parted y l (e ∷ es) yn w =
      let ih = spans-parted y l es yn w.1 in
      on_bool (eqb e.child c)
      (λ q. let e1 = eqb-true _ _ q in
      let z = same_not y n yn in
      let ga : times y (g2.group a.child) ≡ same y c + 0 = rw (j.a_child, j.group_c) refl in
      let gb : times y (g2.group b.child) ≡ same y n + times y tail = rw (j.b_child, j.group_n) refl in
      let ge : times y (g.group e.child) ≡ same y c + times y tail = rw (e1, j.group_was) refl in
      rw (parted-at c a b e es q) (omega arith))
      (λ q. let gr = grows-other top l e w.0 (eqb-false _ _ q) in
      let s : times y (g2.group e.child) ≡ times y (g.group e.child) = ap (times y) gr ∙ times-put_behind_other c n y (g.group e.child) yn in
      rw (parted-past c a b e es q) (omega arith))

  spans-parted_new : (l : ℕ) (es : List Entry) → Each (EntryOk g look table l) es → spans g2 n (parted c a b es) ≡ spans g c es
  spans-parted_new l [] w = refl
  spans-parted_new l (e ∷ es) w =
      let v = j.items.div in
      let ih = spans-parted_new l es w.1 in
      let cn = c-not-n in
      on_bool (eqb e.child c)
      (λ q. let e1 = eqb-true _ _ q in
      let z = same_not n c (λ h. cn (sym h)) in
      let o = same_is n n refl in
      let o2 = same_is c c refl in
      let ga : times n (g2.group a.child) ≡ same n c + 0 = rw (j.a_child, j.group_c) refl in
      let gb : times n (g2.group b.child) ≡ same n n + times n tail = rw (j.b_child, j.group_n) refl in
      let ge : times c (g.group e.child) ≡ same c c + times c tail = rw (e1, j.group_was) refl in
      let zc = c-off in
      let zn = n-off in
      rw (parted-at c a b e es q) (omega arith))
      (λ q. let gr = grows-other top l e w.0 (eqb-false _ _ q) in
      let none = not_on g look (noted_of g l e) n w.0.group v.fresh in
      let s : times n (g2.group e.child) ≡ times c (g.group e.child) + times n (g.group e.child) = ap (times n) gr ∙ times-put_behind_new c n (g.group e.child) cn in
      rw (parted-past c a b e es q) (omega arith))

  top-dir : (l : ℕ) → l ≡ k → top ≢ c → top ≢ n → DirOk g2 look2 table top l
  top-dir l lk tc tn =
      let v = j.items.div in
      let tl : g.level top ≡ l + 1 = (let u = j.top_level in omega arith) in
      let dir = tree.dirs top l j.top_in tl in
      record {
        entries = rw j.entries (entries-parted l (look top).entries lk dir.entries (j.items.waits top l j.top_in tl));
        each = λ y i lv. rw j.entries (on_bool (eqb y n)
            (λ q. let yn = eqb-true _ _ q in
            let x = dir.each c v.c_inside (v.c_level ∙ sym lk) in
            rw yn (spans-parted_new l (look top).entries dir.entries ∙ x ∙ ap (λ (w : ℕ). same w top) (sym (v.new_above (l + 1) (omega arith)))))
            (λ q. let yn = eqb-false _ _ q in
            let yi = before g g2 k c n ok v y yn i in
            let yl : g.level y ≡ l = sym (v.level y yn) ∙ lv in
            spans-parted y l (look top).entries yn dir.entries ∙ dir.each y yi yl ∙ hangs top y l tc tn yi yl));
      }

  groups-other : (x l : ℕ) (es : List Entry) → Each (EntryOk g look table l) es → Each (λ e. e.child ≢ c) es → Each (λ e. g2.group e.child ≡ put_behind c n (g.group e.child)) es
  groups-other x l es w ne = each-both (EntryOk g look table l) (λ (e : Entry). e.child ≢ c) (λ (e : Entry). g2.group e.child ≡ put_behind c n (g.group e.child)) es (λ e u z. grows-other x l e u z) w ne

  belows-other : (x l : ℕ) (es : List Entry) → Each (EntryOk g look table l) es → Each (λ e. e.child ≢ c) es → Each (λ e. g2.below e.child ≡ g.below e.child) es
  belows-other x l es w ne = each-both (EntryOk g look table l) (λ (e : Entry). e.child ≢ c) (λ (e : Entry). g2.below e.child ≡ g.below e.child) es
      (λ e u z. j.below e.child z (old-apart g g2 k c n ok j.items.div e.child (child-in x l e u).0)) w ne

  other-parted : (x l : ℕ) → x ≢ c → x ≢ n → x ≢ top → g.inside x ≡ true → g.level x ≡ l + 1 → DirOk g2 look2 table x l
  other-parted x l xc xn xt xi xl =
      let v = j.items.div in
      let dir = tree.dirs x l xi xl in
      let none : g.level c ≡ l → spans g c (look x).entries ≡ 0 = (λ lv.
      let up : g.above c (l + 1) ≡ top = ap (λ (w : ℕ). g.above c (w + 1)) (sym lv ∙ v.c_level) ∙ j.top_is in
      dir.each c v.c_inside lv ∙ same_not _ x (λ h. xt (sym h ∙ up))) in
      let ne = not-c x l (look x).entries none dir.entries in
      let gr = groups-other x l (look x).entries dir.entries ne in
      let both = each-both (EntryOk g look table l) (λ (e : Entry). e.child ≢ c) (λ (e : Entry). (EntryOk g look table l e × (e.child ≢ c))) (look x).entries (λ e u z. (u, z)) dir.entries ne in
      let w = each-both (λ (e : Entry). (EntryOk g look table l e × (e.child ≢ c))) (λ (e : Entry). e.stamp ≢ t) (EntryOk g2 look2 table l) (look x).entries
      (λ e u st. entry-other x l e u.0 st u.1) both (j.items.waits x l xi xl) in
      let is = j.other x xc xn xt in
      record {
        entries = rw is w;
        each = λ y i lv. rw is (on_bool (eqb y n)
            (λ q. let yn = eqb-true _ _ q in
            let lk : l ≡ k = sym lv ∙ ap g2.level yn ∙ v.new_level in
            let s = spans-new g g2 look look2 table k c n t ok tree j.items x l (look x).entries dir.entries gr in
            let u = dir.each c v.c_inside (v.c_level ∙ sym lk) in
            rw yn (s ∙ u ∙ ap (λ (w : ℕ). same w x) (sym (v.new_above (l + 1) (omega arith)))))
            (λ q. let yn = eqb-false _ _ q in
            let yi = before g g2 k c n ok v y yn i in
            let yl : g.level y ≡ l = sym (v.level y yn) ∙ lv in
            spans-grown g g2 look look2 table k c n t ok tree j.items y (look x).entries yn gr ∙ dir.each y yi yl ∙ hangs x y l xc xn yi yl));
      }

  part-parted : (x l : ℕ) → k ≡ l + 1 → Each (λ e. Among e (look c).entries) (look2 x).entries
      → ((y : ℕ) → g.inside y ≡ true → g.level y ≡ l → spans g y (look2 x).entries ≡ same (g2.above y k) x) → DirOk g2 look2 table x l
  part-parted x l kl of side =
      let v = j.items.div in
      let lev : g.level c ≡ l + 1 = v.c_level ∙ kl in
      let dir = tree.dirs c l v.c_inside lev in
      let w = each-of (EntryOk g look table l) (look c).entries (look2 x).entries dir.entries of in
      let ne = not-c c l (look2 x).entries (λ lv. absurd (omega arith)) w in
      let gr = groups-other c l (look2 x).entries w ne in
      let be = belows-other c l (look2 x).entries w ne in
      record {
        entries = part-ok g g2 look look2 table k c n t ok tree j.items x l (look2 x).entries kl of gr be;
        each = λ y i lv.
            let nl = v.new_level in
            let yn : y ≢ n = (λ z. let u : g2.level y ≡ g2.level n = ap g2.level z in absurd (omega arith)) in
            rw (← kl) (spans-grown g g2 look look2 table k c n t ok tree j.items y (look2 x).entries yn gr ∙ side y (before g g2 k c n ok v y yn i) (sym (v.level y yn) ∙ lv));
      }

  pub tree-parted : TreeOk g2 look2 table
  tree-parted =
      let v = j.items.div in
      let tl = j.top_level in
      let cl = v.c_level in
      let top_c : top ≢ c = (λ h. let u : g.level top ≡ g.level c = ap g.level h in absurd (omega arith)) in
      let top_n : top ≢ n = old-apart g g2 k c n ok v top j.top_in in
      record {
        shape = shape-divided g g2 k c n ok v;
        heads = heads-divided g g2 look look2 table k c n t ok tree j.items (rw j.new_head v.new_inside);
        leaves = lies-divided g g2 look look2 table k c n t ok tree j.items;
        dirs = λ x l i lv. on_bool (eqb x n)
            (λ q. let e = eqb-true _ _ q in
            let kl : k ≡ l + 1 = sym v.new_level ∙ ap g2.level (sym e) ∙ lv in
            rw e (part-parted n l kl j.items.right (λ y yi yl. (sides g g2 look look2 table k c n t ok tree j.items y l kl yi yl).1)))
            (λ q. let xn = eqb-false _ _ q in
            let xi = before g g2 k c n ok v x xn i in
            let xl : g.level x ≡ l + 1 = sym (v.level x xn) ∙ lv in
            on_bool (eqb x c)
            (λ q2. let e = eqb-true _ _ q2 in
            let kl : k ≡ l + 1 = sym v.c_level ∙ ap g.level (sym e) ∙ xl in
            rw e (part-parted c l kl j.items.left (λ y yi yl. (sides g g2 look look2 table k c n t ok tree j.items y l kl yi yl).0)))
            (λ q2. let xc = eqb-false _ _ q2 in on_bool (eqb x top)
            (λ q3. let e = eqb-true _ _ q3 in
            let u : g.level top ≡ l + 1 = ap g.level (sym e) ∙ xl in
            rw e (top-dir l (omega arith) top_c top_n))
            (λ q3. other-parted x l xc xn (eqb-false _ _ q3) xi xl)));
      }

-- A row that is put in its leaf, and one that comes in; a query that begins and one that ends
use Rattle.std.proofs.{Common.{◌≡◌, ◌≢◌, ℕ, ◌+◌, ◌≤◌, Bool, true, false, eqb, List, [], ◌∷◌, sym, ap, ◌∙◌, subst, refl, arith}, lemmas.Bool.{eqb-true, eqb-false}}
use Rattle.list_words.specs.Counts.{times}
use Rattle.list_words.proofs.Truth.{on_bool}
use Rattle.tree_shape.specs.{Queries.{IsUnfinished, QueryOk, fits, items_of}, Shape.{Node, Shape, ShapeOk}, Steps.AfterAll, Walks.{IsNoted, Noted, pending}}
use Rattle.tree_shape.proofs.{Cutting.Relations.{Came, SameLinks, Settled}, Reading.Queries.{reach-low, pending-same, all_noted-same}}

pub query-settled : (g g2 : Shape) (look look2 : ℕ → Node) (r : ℕ) (must fits : ℕ → Bool) (ps : List Noted) (counted : List ℕ) → Settled g g2 r → SameLinks look look2 → QueryOk g look must fits ps counted → QueryOk g2 look2 must fits ps counted
query-settled g g2 look look2 r must fits ps counted d x q =
    let same_pend = λ (y : ℕ). pending-same g g2 ps y d.tree in
    let same_at = λ (s : ℕ). same_pend (g2.at s) ∙ ap (pending g ps) (d.at s) in
    record {
      noted = all_noted-same g g2 look look2 ps d.tree x q.noted;
      blocks = λ y i. rw (same_pend y) (q.blocks y (sym (d.tree.inside y) ∙ i));
      distinct = q.distinct;
      fitting = q.fitting;
      once = λ s i. rw (same_at s) (q.once s (sym (d.placed s) ∙ i));
      whole = λ s i m f. rw (same_at s) (q.whole s (sym (d.placed s) ∙ i) m f);
      passed = λ s i ca seen y yi le ab.
          let lv : g2.level (g2.at s) ≡ g.level (g.at s) = ap g2.level (d.at s) ∙ d.tree.level (g.at s) in
          let ly = d.tree.level y in
          let up : g.above y (g.level (g.at s)) ≡ g.at s = sym (d.tree.above y (g.level (g.at s))) ∙ ap (g2.above y) (sym lv) ∙ ab ∙ d.at s in
          rw (same_pend y) (on_bool (eqb s r)
          (λ b. let bad : true ≡ false = sym ca ∙ ap g2.carried (eqb-true _ _ b) ∙ d.now in cc)
          (λ b. q.passed s (sym (d.placed s) ∙ i) (sym (d.carried s (eqb-false _ _ b)) ∙ ca) seen y (sym (d.tree.inside y) ∙ yi) (omega arith) up));
    }

pub query-came : (g g2 : Shape) (look look2 : ℕ → Node) (r c : ℕ) (must fits : ℕ → Bool) (ps : List Noted) (counted : List ℕ) → Came g g2 r c → SameLinks look look2 → times r counted ≡ 0 → must r ≡ false → QueryOk g look must fits ps counted → QueryOk g2 look2 must fits ps counted
query-came g g2 look look2 r c must fits ps counted d x unseen unmust q =
    let same_pend = λ (y : ℕ). pending-same g g2 ps y d.tree in
    let same_at = λ (s : ℕ) (n : s ≢ r). same_pend (g2.at s) ∙ ap (pending g ps) (d.at s n) in
    let bc = q.blocks c d.c_inside in
    record {
      noted = all_noted-same g g2 look look2 ps d.tree x q.noted;
      blocks = λ y i. rw (same_pend y) (q.blocks y (sym (d.tree.inside y) ∙ i));
      distinct = q.distinct;
      fitting = q.fitting;
      once = λ s i. on_bool (eqb s r)
          (λ b. let e = eqb-true _ _ b in rw (e, d.now_at, same_pend c, unseen) (omega arith))
          (λ b. let n = eqb-false _ _ b in rw (same_at s n) (q.once s (sym (d.placed s n) ∙ i)));
      whole = λ s i m f. on_bool (eqb s r)
          (λ b. let bad : true ≡ false = sym m ∙ ap must (eqb-true _ _ b) ∙ unmust in cc)
          (λ b. let n = eqb-false _ _ b in rw (same_at s n) (q.whole s (sym (d.placed s n) ∙ i) m f));
      passed = λ s i ca seen y yi le ab. on_bool (eqb s r)
          (λ b. let w : 1 ≤ times r counted = rw (eqb-true _ _ b) at seen in absurd (omega arith))
          (λ b. let n = eqb-false _ _ b in
          let lv : g2.level (g2.at s) ≡ g.level (g.at s) = ap g2.level (d.at s n) ∙ d.tree.level (g.at s) in
          let ly = d.tree.level y in
          let up : g.above y (g.level (g.at s)) ≡ g.at s = sym (d.tree.above y (g.level (g.at s))) ∙ ap (g2.above y) (sym lv) ∙ ab ∙ d.at s n in
          rw (same_pend y) (q.passed s (sym (d.placed s n) ∙ i) (sym (d.carried s n) ∙ ca) seen y (sym (d.tree.inside y) ∙ yi) (omega arith) up));
    }

-- a query notes the root, after it has counted the rows of the queue that fit
pub query-begins : (g : Shape) (look : ℕ → Node) (must fits : ℕ → Bool) (root : Noted) (counted : List ℕ) → ShapeOk g → IsNoted g look root → root.level + 1 ≡ g.height
    → ((y : ℕ) → g.inside y ≡ true → g.level y ≡ root.level → times y root.walk ≡ 1)
    → ((r : ℕ) → times r counted ≤ 1) → ((r : ℕ) → 1 ≤ times r counted → fits r ≡ true) → ((r : ℕ) → g.placed r ≡ true → times r counted ≡ 0)
    → QueryOk g look must fits (root ∷ []) counted
query-begins g look must fits root counted ok t top all distinct fit apart =
    let one = λ (y : ℕ) (i : g.inside y ≡ true).
    let b = ok.below y i in
    let le : g.level y ≤ root.level = omega arith in
    let h = ok.higher y root.level i le t.low in
    let e = reach-low g root y le in
    let w = all (g.above y root.level) h.0 h.1 in
    let r : pending g (root ∷ []) y ≡ 1 = omega arith in r in
    record {
      noted = (t, tt);
      blocks = λ y i. let o = one y i in omega arith;
      distinct = distinct;
      fitting = fit;
      once = λ r i. let o = one (g.at r) (ok.stands r i) in let a = apart r i in omega arith;
      whole = λ r i m f. let o = one (g.at r) (ok.stands r i) in omega arith;
      passed = λ r i ca seen y yi le ab. let a = apart r i in absurd (omega arith);
    }

-- a query with nothing before it has counted each row that it must hold, once, and no row that doesn't fit
pub after-all : (g : Shape) (look : ℕ → Node) (must fits : ℕ → Bool) (counted : List ℕ) → IsUnfinished g look must fits [] counted → AfterAll g must fits counted
after-all g look must fits counted u =
    let q : QueryOk g look must fits [] counted = subst (λ ps. QueryOk g look must fits ps counted) (nothing u.noted u.are) u.ok in
    record {
      once = q.distinct;
      fitting = q.fitting;
      whole = λ r i m f. let w = q.whole r i m f in let d = q.distinct r in omega arith;
    }
  where
    nothing : (ps : List Noted) → items_of ps ≡ [] → ps ≡ []
    nothing [] e = refl
    nothing (p ∷ ps) e = cc

-- The carrier of the deepest row can go on, and of some actors there is one that can.
use Rattle.std.proofs.Common.{◌≡◌, ℕ, ◌+◌, ◌≤◌, ◌⊎◌, inl, inr, true, Option, Some, None, List, [], ◌∷◌, refl, ap, sym, subst, arith}
use Rattle.list_words.specs.Counts.{Among, Each}
use Rattle.tree_shape.specs.{Carrying.{IsDeepest, Carriers, WantsChild, IsIdleIf, DeepestLaw, SomeLaw}, Shape.{Table, TreeCells, Shape}, Steps.IsIdle, Trees.{IsTree, IsBelow}}
use Rattle.tree_shape.proofs.Whole.Totals.{leads-down}

-- nobody is at a block one level below the deepest row
idle : (g : Shape) (r c : ℕ) → IsDeepest g r → g.level c + 1 ≡ g.level (g.at r) → IsIdle g c
idle g r c deepest below q placed carried at =
    let least = deepest q placed carried in
    let same = ap g.level at in
    omega arith

-- so the carrier of the deepest row finds what it wants idle
wanted-idle : (table : Table) (cells : TreeCells) (g : Shape) (r : ℕ) (want : Option ℕ) → IsTree table cells g → g.placed r ≡ true
    → IsDeepest g r → WantsChild cells g r want → IsIdleIf g want
wanted-idle table cells g r None t placed deepest w = tt
wanted-idle table cells g r (Some c) t placed deepest (place, e, at, is) =
    let below : IsBelow cells g e.child (g.level (g.at r)) = leads-down table cells g (g.at r) place e t (t.tree.shape.stands r placed) (t.entered r placed) at in
    subst (λ x. IsIdle g x) (sym is) (idle g r e.child deepest below.below)

pub deepest-law : DeepestLaw
deepest-law table cells g all actors i r t are row deepest =
    wanted-idle table cells g r (all.wants i) t (are.carried i r row).0 deepest (are.child i r row)

-- Of some actors nobody carries a row, or one carries it no higher than the others.

Least : Shape → Carriers → ℕ → ℕ → Type 0
Least g all r j = (q : ℕ) → all.row j ≡ Some q → g.level (g.at r) ≤ g.level (g.at q)

abbrev Carries : Shape → Carriers → List ℕ → Type 0
Carries g all actors = (i : ℕ) × (r : ℕ) × Among i actors × (all.row i ≡ Some r) × Each (Least g all r) actors

none-no : {X : Type 0} → (o : Option ℕ) (q : ℕ) → o ≡ None → o ≡ Some q → X
none-no o q e f = cc

some-same : (o : Option ℕ) (r q : ℕ) → o ≡ Some r → o ≡ Some q → r ≡ q
some-same o r q e f = cc

each-none : (g : Shape) (all : Carriers) (r : ℕ) (js : List ℕ) → Each (λ j. all.row j ≡ None) js → Each (Least g all r) js
unfolding Least
each-none g all r [] n = tt
each-none g all r (j ∷ js) n = ((λ q e. none-no (all.row j) q n.0 e), each-none g all r js n.1)

each-lower : (g : Shape) (all : Carriers) (r x : ℕ) (js : List ℕ) → g.level (g.at x) ≤ g.level (g.at r) → Each (Least g all r) js → Each (Least g all x) js
unfolding Least
each-lower g all r x [] h n = tt
each-lower g all r x (j ∷ js) h n = ((λ q e. let k = n.0 q e in omega arith), each-lower g all r x js h n.1)

least-own : (g : Shape) (all : Carriers) (r j : ℕ) → all.row j ≡ Some r → Least g all r j
unfolding Least
least-own g all r j is q e = let same = ap (λ x. g.level (g.at x)) (some-same (all.row j) r q is e) in omega arith

le-or : (a b : ℕ) → (a ≤ b) ⊎ (b ≤ a)
le-or a b = grind arith

least-at : (g : Shape) (all : Carriers) (r q j : ℕ) → all.row j ≡ Some q → g.level (g.at r) ≤ g.level (g.at q) → Least g all r j
unfolding Least
least-at g all r q j is h p e = let same = ap (λ x. g.level (g.at x)) (some-same (all.row j) q p is e) in omega arith

find-in : (g : Shape) (all : Carriers) (j : ℕ) (js : List ℕ) (o : Option ℕ) → all.row j ≡ o
    → (Each (λ j. all.row j ≡ None) js) ⊎ Carries g all js → (Each (λ j. all.row j ≡ None) (j ∷ js)) ⊎ Carries g all (j ∷ js)
unfolding Least
find-in g all j js None is (inl none) = inl (is, none)
find-in g all j js None is (inr (i, r, among, row, least)) =
    inr (i, r, inr among, row, ((λ q e. none-no (all.row j) q is e), least))
find-in g all j js (Some q) is (inl none) = inr (j, q, inl refl, is, (least-own g all q j is, each-none g all q js none))
find-in g all j js (Some q) is (inr (i, r, among, row, least)) =
    elim (le-or (g.level (g.at r)) (g.level (g.at q))) [
      | inl low ↦ inr (i, r, inr among, row, (least-at g all r q j is low, least))
      | inr low ↦ inr (j, q, inl refl, is, (least-own g all q j is, each-lower g all r q js low least))
    ]

find : (g : Shape) (all : Carriers) (js : List ℕ) → (Each (λ j. all.row j ≡ None) js) ⊎ Carries g all js
find g all [] = inl tt
find g all (j ∷ js) = find-in g all j js (all.row j) refl (find g all js)

each-at : (P : ℕ → Type 0) (i : ℕ) (js : List ℕ) → Among i js → Each P js → P i
each-at P i [] a e = absurd a
each-at P i (j ∷ js) (inl is) e = subst P (sym is) e.0
each-at P i (j ∷ js) (inr more) e = each-at P i js more e.1

idle-if-none : (g : Shape) (want : Option ℕ) → ((q : ℕ) → g.placed q ≡ true → g.carried q ≡ true → ⊥) → IsIdleIf g want
idle-if-none g None never = tt
idle-if-none g (Some c) never = λ q placed carried at. never q placed carried

pub some-law : SomeLaw
unfolding Least
some-law table cells g all actors one t are among =
    elim (find g all actors) [
      | inl none ↦ (
        one,
        among,
        idle-if-none g (all.wants one)
            (λ q placed carried. let c = are.some q placed carried in
            none-no (all.row c.0) q (each-at (λ j. all.row j ≡ None) c.0 actors c.1 none) c.2),
      )
      | inr (i, r, where_, row, least) ↦ (
        i,
        where_,
        deepest-law table cells g all actors i r t are row
            (λ q placed carried. let c = are.some q placed carried in each-at (Least g all r) c.0 actors c.1 least q c.2),
      )
    ]

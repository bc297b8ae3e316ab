-- The way up in a tree.
use Rattle.std.proofs.{Common.{ℕ, zero, suc, ◌≡◌, ◌+◌, ◌-◌, ◌<◌, ◌≤◌, length, get_or, Bool, true, false, eqb, refl, sym, ap, ◌∙◌, arith, inl, inr, eq-eqb}, lemmas.Bool.{cases_lt, eqb-true}}
use Rattle.std.specs.{List.list_any, Prelude.{◌↔◌, IsTrue, ◌||◌}}
use Rattle.dim_hierarchy.specs.{Concept.level_of, Meaning.IsUnder, Tree.{Tree, IsConcept, IsTree, parents_at, parent, climb, up, way_up, is_under}}

-- a concept of level 0 is ALL
pub concept_at_top : (t : Tree) → IsTree t → (id : ℕ) → IsConcept t id → level_of id ≡ 0 → id ≡ 0
concept_at_top t w id c e =
    let one : length (parents_at t (level_of id)) ≡ 1 = ap (λ l. length (parents_at t l)) e ∙ ap length w.top in
    omega (arith, c.number)

-- ALL is its own parent
pub parent-top : (t : Tree) → IsTree t → parent t 0 ≡ 0
parent-top t w = ap (λ xs. get_or xs 0 0) w.top

-- what so many steps up reach: a concept so many levels higher
pub record Climbs (t : Tree) (n id : ℕ) : Type 0 where
  pub concept : IsConcept t (climb t n id)
  pub level : level_of (climb t n id) ≡ level_of id - n

pub climbs : (t : Tree) → IsTree t → (n id : ℕ) → IsConcept t id → Climbs t n id
unfolding climb
climbs t w zero id c = record { concept = c; level = omega arith }
climbs t w (suc n) id c =
    let rest = climbs t w n (parent t id) (w.parent_concept id c) in
    record { concept = rest.concept; level = omega (arith, rest.level, w.parent_level id c) }

-- so many steps and then so many more
pub climb-climb : (t : Tree) (m n id : ℕ) → climb t n (climb t m id) ≡ climb t (m + n) id
unfolding climb
climb-climb t zero n id = let e : n ≡ zero + n = omega arith in ap (λ k. climb t k id) e
climb-climb t (suc m) n id =
    let e : suc (m + n) ≡ suc m + n = omega arith in
    climb-climb t m n (parent t id) ∙ ap (λ k. climb t k id) e

-- from ALL no step leads away
pub climb-top : (t : Tree) → IsTree t → (n : ℕ) → climb t n 0 ≡ 0
unfolding climb
climb-top t w zero = refl
climb-top t w (suc n) = ap (λ id. climb t n id) (parent-top t w) ∙ climb-top t w n

-- Ancestors at a level.

pub up-IsConcept : (t : Tree) → IsTree t → (id level : ℕ) → IsConcept t id → IsConcept t (up t id level)
unfolding up
up-IsConcept t w id level c = (climbs t w (level_of id - level) id c).concept

pub level_of-up : (t : Tree) → IsTree t → (id level : ℕ) → IsConcept t id → level ≤ level_of id → level_of (up t id level) ≡ level
unfolding up
level_of-up t w id level c h = omega (arith, (climbs t w (level_of id - level) id c).level)

pub up-self : (t : Tree) (id level : ℕ) → level ≡ level_of id → up t id level ≡ id
unfolding up climb
up-self t id level e = let z : level_of id - level ≡ 0 = omega arith in ap (λ n. climb t n id) z

-- up in two strides
pub up-up : (t : Tree) → IsTree t → (id high low : ℕ) → IsConcept t id → low ≤ high → high ≤ level_of id → up t (up t id high) low ≡ up t id low
unfolding up
up-up t w id high low c a b =
    let m = level_of id - high in
    let lev = (climbs t w m id c).level in
    let e : level_of (climb t m id) - low ≡ high - low = omega (arith, lev) in
    let f : m + (high - low) ≡ level_of id - low = omega arith in
    ap (λ n. climb t n (climb t m id)) e ∙ climb-climb t m (high - low) id ∙ ap (λ n. climb t n id) f

-- the ancestor of the parent is the concept's own
pub up-parent : (t : Tree) → IsTree t → (id level : ℕ) → IsConcept t id → level < level_of id → up t (parent t id) level ≡ up t id level
unfolding up climb
up-parent t w id level c h =
    let e : suc (level_of (parent t id) - level) ≡ level_of id - level = omega (arith, w.parent_level id c) in
    let s : climb t (suc (level_of (parent t id) - level)) id ≡ climb t (level_of id - level) id = ap (λ n. climb t n id) e in
    s

-- Being under.

pub IsUnder-self : (t : Tree) (id : ℕ) → IsUnder t id id
unfolding climb
IsUnder-self t id = record { steps = 0; reached = refl }

pub IsUnder-trans : (t : Tree) (a b c : ℕ) → IsUnder t a b → IsUnder t b c → IsUnder t a c
IsUnder-trans t a b c p q = record {
  steps = p.steps + q.steps;
  reached = sym (climb-climb t p.steps q.steps a) ∙ ap (λ x. climb t q.steps x) p.reached ∙ q.reached;
}

-- a concept is under its ancestors
pub under_up : (t : Tree) (id level : ℕ) → IsUnder t id (up t id level)
unfolding up
under_up t id level = record { steps = level_of id - level; reached = refl }

-- the second concept is the first one's ancestor at its level
pub record IsAncestor (t : Tree) (id top : ℕ) : Type 0 where
  pub level : level_of top ≤ level_of id
  pub is : up t id (level_of top) ≡ top

pub ancestor_of : (t : Tree) → IsTree t → (id top : ℕ) → IsConcept t id → IsUnder t id top → IsAncestor t id top
unfolding up
ancestor_of t w id top c u =
    elim (cases_lt (level_of id) u.steps) [
      | inl h ↦
          let m = level_of id in
          let at_top = climbs t w m id c in
          let z : climb t m id ≡ 0 = concept_at_top t w (climb t m id) at_top.concept (omega (arith, at_top.level)) in
          let e : m + (u.steps - m) ≡ u.steps = omega arith in
          let is_top : top ≡ 0 =
          sym u.reached ∙ ap (λ n. climb t n id) (sym e) ∙ sym (climb-climb t m (u.steps - m) id)
          ∙ ap (λ k. climb t (u.steps - m) k) z ∙ climb-top t w (u.steps - m) in
          let q : level_of id - level_of top ≡ m = omega arith in
          record { level = omega arith; is = ap (λ n. climb t n id) q ∙ z ∙ sym is_top }
      | inr h ↦
          let lev : level_of top ≡ level_of id - u.steps = ap level_of (sym u.reached) ∙ (climbs t w u.steps id c).level in
          let e : level_of id - level_of top ≡ u.steps = omega arith in
          record { level = omega arith; is = ap (λ n. climb t n id) e ∙ u.reached }
    ]

pub IsUnder-up : (t : Tree) (id top : ℕ) → up t id (level_of top) ≡ top → IsUnder t id top
unfolding up
IsUnder-up t id top e = record { steps = level_of id - level_of top; reached = e }

-- The test.

-- what stands on the way up is reached by parents
on_way-IsUnder : (t : Tree) (n id top : ℕ) → list_any (λ a. eqb a top) (way_up t n id) ≡ true → IsUnder t id top
unfolding climb way_up
on_way-IsUnder t zero id top h = elim (eqb id top) as (λ b. b ≡ eqb id top → (b || false) ≡ true → IsUnder t id top) [
  | true ↦ λ e f. record { steps = 0; reached = eqb-true id top (sym e) }
  | false ↦ λ e f. absurd cc
] refl h
on_way-IsUnder t (suc n) id top h = elim (eqb id top) as (λ b. b ≡ eqb id top → (b || list_any (λ a. eqb a top) (way_up t n (parent t id))) ≡ true → IsUnder t id top) [
  | true ↦ λ e f. record { steps = 0; reached = eqb-true id top (sym e) }
  | false ↦ λ e f. let u = on_way-IsUnder t n (parent t id) top f in record { steps = suc u.steps; reached = u.reached }
] refl h

-- what is reached by few enough parents stands on the way up
on_way : (t : Tree) (k n id top : ℕ) → k ≤ n → climb t k id ≡ top → list_any (λ a. eqb a top) (way_up t n id) ≡ true
unfolding climb way_up
on_way t zero zero id top h e = ap (λ b. b || false) (eq-eqb id top e)
on_way t zero (suc n) id top h e = ap (λ b. b || list_any (λ a. eqb a top) (way_up t n (parent t id))) (eq-eqb id top e)
on_way t (suc k) zero id top h e = absurd (omega arith)
on_way t (suc k) (suc n) id top h e =
    either (eqb id top) (list_any (λ a. eqb a top) (way_up t n (parent t id))) (on_way t k n (parent t id) top (omega arith) e)
  where
    either : (a b : Bool) → b ≡ true → (a || b) ≡ true
    either true b e = refl
    either false b e = e

pub is_under-IsUnder : (t : Tree) → IsTree t → (id top : ℕ) → IsConcept t id → IsTrue (is_under t id top) ↔ IsUnder t id top
unfolding is_under up
is_under-IsUnder t w id top c = (
  λ b. on_way-IsUnder t (level_of id) id top b,
  λ u. on_way t (level_of id - level_of top) (level_of id) id top (omega arith) (ancestor_of t w id top c u).is,
)

same_tests : (a b : Bool) → (a ≡ true → b ≡ true) → (b ≡ true → a ≡ true) → a ≡ b
same_tests true b f g = sym (f refl)
same_tests false true f g = g refl
same_tests false false f g = refl

-- the test by the ancestor at the level of the top
pub is_under-at : (t : Tree) → IsTree t → (id top at : ℕ) (r : Bool) → IsConcept t id → level_of top ≤ level_of id → at ≡ up t id (level_of top) → r ≡ eqb at top → r ≡ is_under t id top
is_under-at t w id top at r c h e f =
    let m = is_under-IsUnder t w id top c in
    same_tests r (is_under t id top)
    (λ b. m.1 (IsUnder-up t id top (sym e ∙ eqb-true at top (sym f ∙ b))))
    (λ b. f ∙ eq-eqb at top (e ∙ (ancestor_of t w id top c (m.0 b)).is))

-- no concept is under one of a lower level
pub is_under-below : (t : Tree) → IsTree t → (id top : ℕ) (r : Bool) → IsConcept t id → level_of id < level_of top → r ≡ false → r ≡ is_under t id top
is_under-below t w id top r c h e =
    same_tests r (is_under t id top) (λ b. absurd cc)
    (λ b. let a = (ancestor_of t w id top c ((is_under-IsUnder t w id top c).0 b)).level in absurd (omega (arith, a)))

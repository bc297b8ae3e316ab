-- What holds where nothing stands against a growth.
use Rattle.std.proofs.{Common.{ℕ, ◌≡◌, ◌≢◌, ◌+◌, ◌<◌, ◌≤◌, ◌^◌, List, length, Bool, true, false, cond, not, leb, ltb, eqb, refl, arith}, lemmas.Bool.{leb-false, ltb-false, ltb-true, eqb-false}}
use Rattle.std.specs.Prelude.{Option, Some, None, is_some, ◌||◌, ◌&&◌}
use Rattle.dim_hierarchy.specs.{Concept.{level_of, number_of}, Counted.concept_count, Dimension.{Dimension, dimension, tree, find, find_dim, dim_fault, concept_fault}, Tree.{IsConcept, is_concept, leaf_level, parents_at}}
use Rattle.dim_hierarchy.proofs.Growth.{CanGrow, length-parents_at-le}

cond_None : {X : Type 0} (b : Bool) (x : X) (o : Option X) → cond b (Some x) o ≡ None → (b ≡ false) × (o ≡ None)
cond_None true x o e = absurd cc
cond_None false x o e = (refl, e)

nothing : {X : Type 0} (o : Option X) → is_some o ≡ false → o ≡ None
nothing None e = refl
nothing (Some x) e = absurd cc

neither : (a b : Bool) → (a || b) ≡ false → (a ≡ false) × (b ≡ false)
neither true b e = absurd cc
neither false b e = (refl, e)

both : (a b : Bool) → not (a && b) ≡ false → (a ≡ true) × (b ≡ true)
both true true e = (refl, refl)
both true false e = absurd cc
both false b e = absurd cc

-- nothing stands against a dimension
pub record CanAddDimension (h : List Dimension) (name : List ℕ) (levels : ℕ) : Type 0 where
  pub few : length h < 8
  pub new : find_dim h name ≡ None
  pub low : 1 ≤ levels
  pub high : levels ≤ 8

pub dim_fault-None : (h : List Dimension) (name : List ℕ) (levels : ℕ) → dim_fault h name levels ≡ None → CanAddDimension h name levels
dim_fault-None h name levels e =
    let a = cond_None (leb 8 (length h)) _ _ e in
    let b = cond_None (is_some (find_dim h name)) _ _ a.1 in
    let c = cond_None (ltb levels 1 || ltb 8 levels) _ _ b.1 in
    let n = neither (ltb levels 1) (ltb 8 levels) c.0 in
    record {
      few = leb-false 8 (length h) a.0;
      new = nothing (find_dim h name) b.0;
      low = ltb-false levels 1 n.0;
      high = ltb-false 8 levels n.1;
    }

-- nothing stands against a concept
pub record CanAddConcept (h : List Dimension) (dim : ℕ) (name : List ℕ) (p : ℕ) : Type 0 where
  pub within : dim < length h
  pub concept : IsConcept (tree h dim) p
  pub level : level_of p + 1 < length (tree h dim)
  pub new : find h dim name ≡ None

pub concept_fault-None : (h : List Dimension) (dim : ℕ) (name : List ℕ) (p : ℕ) → concept_fault h dim name p ≡ None → CanAddConcept h dim name p
concept_fault-None h dim name p e =
    let t = tree h dim in
    let a = cond_None (leb (length h) dim) _ _ e in
    let b = cond_None (not (is_concept t p)) _ _ a.1 in
    let c = cond_None (is_some (find h dim name)) _ _ b.1 in
    let d = cond_None (eqb (level_of p) (leaf_level t)) _ _ c.1 in
    let is = both (ltb (level_of p) (length t)) (ltb (number_of p) (length (parents_at t (level_of p)))) b.0 in
    let within : level_of p < length t = ltb-true (level_of p) (length t) is.0 in
    let inner : level_of p ≢ leaf_level t = eqb-false (level_of p) (leaf_level t) d.0 in
    record {
      within = leb-false (length h) dim a.0;
      concept = record { level = within; number = ltb-true (number_of p) (length (parents_at t (level_of p))) is.1 };
      level = omega arith;
      new = nothing (find h dim name) c.0;
    }

-- and there is a number for it
pub CanAddConcept-CanGrow : (h : List Dimension) (dim : ℕ) (name : List ℕ) (p : ℕ) → CanAddConcept h dim name p → concept_count h < 2 ^ 28 → CanGrow (dimension h dim) name p
CanAddConcept-CanGrow h dim name p c room =
    let few = length-parents_at-le h dim (level_of p + 1) c.within c.level (omega arith) in
    record { concept = c.concept; level = c.level; room = omega (arith, few, room); new = c.new }

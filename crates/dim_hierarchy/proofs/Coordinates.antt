-- Coordinates and filters by name as they are made, dimension by dimension.
use Rattle.std.proofs.{Common.{ℕ, ◌≡◌, ◌≢◌, ◌+◌, ◌<◌, ◌≤◌, List, [], ◌∷◌, ◌++◌, length, get_or, set, take, map, refl, sym, ap, ◌∙◌, arith, inl, inr, true, false, cond, eqb}, lemmas.Bool.{cases_lt, eqb-true}, lemmas.List.{get_or-set_same, get_or-set_other, get_or-take, get_or_append_left, get_or_push, get_or_past, get_or-replicate, length-set, length-take, length-append, length-map, get_or-map}}
use Rattle.std.specs.Prelude.{Option, Some, None, option_and_then, replicate, All as Each}
use Rattle.std.specs.FinMap as fin
use Rattle.dim_hierarchy.specs.{Concept.level_of, Dimension.{Dimension, IsDimension, IsHierarchy, dimension, no_dimension}, Filter.{IsFilterNamed, pick_at, pick_named, picks}, Names.IsNamePick, Row.{IsCoordNamed, leaf_named, leaves}, Tree.{IsLeaf, leaf_level}, declared.filter.NamePick.NamePick, declared.filter.Pick.Pick, declared.filter.Pick.TheVariants.All, declared.row.Coord.Coord}
use Rattle.dim_hierarchy.specs.declared.filter.NamePick.TheVariants as by_name
use Rattle.dim_hierarchy.proofs.Named.{all_Some, get_or-paired, length-paired, pick_named-IsPickOf}

-- Coordinates.

pub leaf_named-IsLeaf : (d : Dimension) → IsDimension d → (name : List ℕ) (id : ℕ) → leaf_named d name ≡ Some id → IsLeaf d.tree id
leaf_named-IsLeaf d w name id e =
    let c = cases (fin.get d.names name) e in
    record { concept = (w.named name id c.0).0; last = c.1 }
  where
    cases : (o : Option ℕ) → option_and_then (λ i. cond (eqb (level_of i) (leaf_level d.tree)) (Some i) None) o ≡ Some id → (o ≡ Some id) × (level_of id ≡ leaf_level d.tree)
    cases None f = absurd cc
    cases (Some i) f = elim (eqb (level_of i) (leaf_level d.tree)) as (λ b. b ≡ eqb (level_of i) (leaf_level d.tree) → cond b (Some i) None ≡ Some id → (Some i ≡ Some id) × (level_of id ≡ leaf_level d.tree)) [
      | true ↦ λ t g. let same : i ≡ id = cc in (g, ap level_of (sym same) ∙ eqb-true (level_of i) (leaf_level d.tree) (sym t))
      | false ↦ λ t g. absurd cc
    ] refl f

-- the places below a dimension are the leaf concepts of its names, and those from it on ALL
pub record IsCoordSoFar (h : List Dimension) (names : List (List ℕ)) (at : List ℕ) (dim : ℕ) : Type 0 where
  pub count : length at ≡ 8
  pub known : (k : ℕ) → k < dim → get_or (leaves h names) k None ≡ Some (get_or at k 0)
  pub rest : (k : ℕ) → dim ≤ k → get_or at k 0 ≡ 0

pub IsCoordSoFar-start : (h : List Dimension) (names : List (List ℕ)) → IsCoordSoFar h names (replicate 8 0) 0
IsCoordSoFar-start h names = record {
  count = refl;
  known = λ k less. absurd (omega arith);
  rest = λ k le. elim (cases_lt k 8) [ inl lt ↦ get_or-replicate 8 k 0 0 lt | inr past ↦ get_or_past (replicate 8 0) k 0 past ];
}

pub IsCoordSoFar-next : (h : List Dimension) (names : List (List ℕ)) (at : List ℕ) (dim i id : ℕ) → IsCoordSoFar h names at dim → dim < 8 → i ≡ dim → get_or (leaves h names) dim None ≡ Some id → IsCoordSoFar h names (set at i id) (dim + 1)
IsCoordSoFar-next h names at dim i id s lt e found = record {
  count = length-set at i id ∙ s.count;
  known = λ k less. elim (cases_lt k dim) [
    | inl below ↦ let ne : k ≢ i = omega arith in s.known k below ∙ ap Some (sym (get_or-set_other at i k id 0 ne))
    | inr here ↦
        let place : k ≡ dim = omega arith in
        let within : i < length at = let n = s.count in omega arith in
        let read : get_or (set at i id) k 0 ≡ id = ap (λ j. get_or (set at i id) j 0) (place ∙ sym e) ∙ get_or-set_same at i id 0 within in
        ap (λ j. get_or (leaves h names) j None) place ∙ found ∙ ap Some (sym read)
  ];
  rest = λ k le. let ne : k ≢ i = omega arith in get_or-set_other at i k id 0 ne ∙ s.rest k (omega arith);
}

pub IsCoordSoFar-end : (h : List Dimension) (names : List (List ℕ)) (at : Coord) (dim : ℕ) → IsHierarchy h → length names ≡ length h → dim ≡ length h → IsCoordSoFar h names at.at dim → IsCoordNamed h names at
IsCoordSoFar-end h names at dim w e end s =
    let n = s.count in
    let few = w.few in
    let len : length (take (length h) at.at) ≡ length h = let l = length-take (length h) at.at in omega (arith, l) in
    record {
      valid = record {
        hierarchy = w;
        leaf = λ k lt. leaf_named-IsLeaf (dimension h k) (w.each k lt) (get_or names k []) (get_or at.at k 0) (sym (get_or-paired leaf_named h names k no_dimension [] None e lt) ∙ s.known k (omega arith));
        rest = λ k le. s.rest k (omega arith);
      };
      concepts = all_Some (leaves h names) (take (length h) at.at) 0 (length-paired leaf_named h names e ∙ sym len) (λ k lt. s.known k (omega arith) ∙ ap Some (sym (get_or-take (length h) at.at k 0 (omega arith))));
    }

-- Filters.

-- the picks of the dimensions below one
pub record IsFilterSoFar (h : List Dimension) (names : List NamePick) (f : List Pick) (dim : ℕ) : Type 0 where
  pub count : length f ≡ dim
  pub known : (k : ℕ) → k < dim → get_or (picks h names) k None ≡ Some (get_or f k All)

pub IsFilterSoFar-next : (h : List Dimension) (names : List NamePick) (f : List Pick) (dim : ℕ) (p : Pick) → IsFilterSoFar h names f dim → get_or (picks h names) dim None ≡ Some p → IsFilterSoFar h names (f ++ p ∷ []) (dim + 1)
IsFilterSoFar-next h names f dim p s found = record {
  count = let n = s.count in omega (arith, length-append f (p ∷ []));
  known = λ k less. elim (cases_lt k dim) [
    | inl below ↦ let within : k < length f = let n = s.count in omega arith in s.known k below ∙ ap Some (sym (get_or_append_left f (p ∷ []) All k within))
    | inr here ↦
        let place : k ≡ dim = omega arith in
        ap (λ j. get_or (picks h names) j None) place ∙ found ∙ ap Some (sym (get_or_push f p All k (let n = s.count in omega arith)))
  ];
}

pub IsFilterSoFar-end : (h : List Dimension) (names : List NamePick) (f : List Pick) (dim : ℕ) → length names ≡ length h → dim ≡ length h → IsFilterSoFar h names f dim → picks h names ≡ map Some f
IsFilterSoFar-end h names f dim e end s =
    let n = s.count in
    all_Some (picks h names) f All (length-paired pick_named h names e ∙ sym end ∙ sym n) (λ k lt. s.known k (omega arith))

-- the filter of picks by name is one of the hierarchy
pub IsFilterNamed-made : (h : List Dimension) (names : List NamePick) (f : List Pick) → IsHierarchy h → length names ≡ length h → Each IsNamePick names → picks h names ≡ map Some f → IsFilterNamed h names f
IsFilterNamed-made h names f w e some are =
    let count : length f ≡ length h = sym (length-map f Some) ∙ ap length (sym are) ∙ length-paired pick_named h names e in
    record {
      valid = record {
        hierarchy = w;
        count = count;
        picks = λ k lt.
            let here : get_or (picks h names) k None ≡ Some (pick_at f k) = ap (λ os. get_or os k None) are ∙ get_or-map Some f k All None (omega arith) in
            pick_named-IsPickOf (dimension h k) (w.each k lt) (get_or names k by_name.All) (pick_at f k) (some k by_name.All (omega arith)) (sym (get_or-paired pick_named h names k no_dimension by_name.All None e lt) ∙ here);
      };
      picks_are = are;
    }

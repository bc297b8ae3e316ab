-- The lineages of a coordinate's concepts, made dimension by dimension and read.
use Rattle.std.proofs.{Common.{ℕ, ◌≡◌, ◌≢◌, ◌+◌, ◌<◌, ◌≤◌, List, [], length, get_or, set, sym, ap, subst, ◌∙◌, arith, inl, inr}, lemmas.Bool.cases_lt, lemmas.List.{get_or_default, get_or-set_same, get_or-set_other, length-set}}
use Rattle.dim_hierarchy.specs.{Concept.level_of, CoordLineages.AreLineagesAt, Dimension.{Dimension, dimension, tree}, Row.{concept_at, IsCoordOf}, Tree.{Tree, up, leaf_level}, declared.row.Coord.Coord}

-- the ancestors of a concept by their level, down to a level
pub record IsLineageTo (t : Tree) (deepest id : ℕ) (lineage : List ℕ) : Type 0 where
  pub long : length lineage ≡ 9
  pub ancestors : (level : ℕ) → level ≤ deepest → get_or lineage level 0 ≡ up t id level

-- the lineages in the first dimensions
pub record AreFirstLineages (h : List Dimension) (at : Coord) (n : ℕ) (lineages : List (List ℕ)) : Type 0 where
  pub count : length lineages ≡ 8
  pub each : (dim : ℕ) → dim < n → IsLineageTo (tree h dim) (leaf_level (tree h dim)) (concept_at at dim) (get_or lineages dim [])

pub AreFirstLineages-more : (h : List Dimension) (at : Coord) (n i id : ℕ) (d : Dimension) (lineages : List (List ℕ)) (lineage : List ℕ) → IsCoordOf h at → AreFirstLineages h at n lineages → n < length h → i ≡ n → d ≡ dimension h n → id ≡ concept_at at n
    → IsLineageTo d.tree (level_of id) id lineage → AreFirstLineages h at (n + 1) (set lineages i lineage)
AreFirstLineages-more h at n i id d lineages lineage v was lt e de ie own = record {
  count = length-set lineages i lineage ∙ was.count;
  each = λ dim below. elim (cases_lt dim n) [
    | inl less ↦
        let ne : dim ≢ i = omega arith in
        subst (IsLineageTo (tree h dim) (leaf_level (tree h dim)) (concept_at at dim)) (sym (get_or-set_other lineages i dim lineage [] ne)) (was.each dim less)
    | inr here ↦
        let is : n ≡ dim = omega arith in
        let count = was.count in
        let few = v.hierarchy.few in
        let read : get_or (set lineages i lineage) n [] ≡ lineage = ap (λ j. get_or (set lineages i lineage) j []) (sym e) ∙ get_or-set_same lineages i lineage [] (omega (arith, count, few)) in
        let last = (v.leaf n lt).last in
        let deep : level_of id ≡ leaf_level (tree h n) = ap level_of ie ∙ last in
        let there : IsLineageTo (tree h n) (leaf_level (tree h n)) (concept_at at n) lineage = record {
          long = own.long;
          ancestors = λ level le. own.ancestors level (omega (arith, le, deep)) ∙ ap (λ (x : Dimension). up x.tree id level) de ∙ ap (λ k. up (tree h n) k level) ie;
        } in
        subst (λ k. IsLineageTo (tree h k) (leaf_level (tree h k)) (concept_at at k) (get_or (set lineages i lineage) k [])) is
        (subst (IsLineageTo (tree h n) (leaf_level (tree h n)) (concept_at at n)) (sym read) there)
  ];
}

pub AreLineagesAt-all : (h : List Dimension) (at : Coord) (n : ℕ) (lineages : List (List ℕ)) → IsCoordOf h at → n ≡ length h → AreFirstLineages h at n lineages → AreLineagesAt h at lineages
AreLineagesAt-all h at n lineages v e u = record {
  valid = v;
  count = u.count;
  long = λ dim lt. (u.each dim (omega (arith, e, lt))).long;
  ancestors = λ dim level lt le. (u.each dim (omega (arith, e, lt))).ancestors level le;
}

-- an ancestor as the code reads it
pub ancestor-read : (h : List Dimension) (at : Coord) (lineages : List (List ℕ)) (i j dim level x : ℕ) → AreLineagesAt h at lineages → dim < length h → level ≤ leaf_level (tree h dim) → i ≡ dim → j ≡ level
    → get_or (get_or lineages i []) j x ≡ up (tree h dim) (concept_at at dim) level
ancestor-read h at lineages i j dim level x a lt le ei ej =
    let few = (a.valid.hierarchy.each dim lt).tree.few in
    let some = (a.valid.hierarchy.each dim lt).tree.some in
    let long = a.long dim lt in
    ap (λ k. get_or (get_or lineages k []) j x) ei ∙ ap (λ k. get_or (get_or lineages dim []) k x) ej
    ∙ get_or_default (get_or lineages dim []) level x 0 (omega (arith, few, some, long, le)) ∙ a.ancestors dim level lt le

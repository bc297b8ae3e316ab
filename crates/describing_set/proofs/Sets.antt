-- The set of a list of coordinates.
use Rattle.std.proofs.{Common.{ℕ, ◌≡◌, ◌≢◌, ◌+◌, ◌<◌, ◌≤◌, List, [], ◌∷◌, ◌++◌, length, map, get_or, set, refl, sym, ap, subst, ◌∙◌, arith, inl, inr}, lemmas.Bool.cases_lt, lemmas.List.{get_or_default, get_or-set_same, get_or-set_other, length-set}, lemmas.List.Elements.{All-head, All-tail, All-cons, All-nil, All-append}}
use Rattle.std.specs.Prelude.{All as Each}
use Rattle.dim_hierarchy.specs.{Compiled.AreOfLevel, Concept.level_of, Dimension.{Dimension, tree, IsHierarchy}, Row.{IsCoordOf, concept_at}, Tree.{Tree, IsConcept, IsLeaf, leaf_level, up}, declared.row.Coord.Coord}
use Rattle.dim_hierarchy.proofs.Ancestors.{up-self}
use Rattle.describing_set.specs.{DescSet.{part_at, column, IsSetOf}, Part.{part, part_of}, Parts.{AreConcepts, IsPart, GrowsPart, PartGrows, JoinsParts}, Sets.{IsDescSetOf, GrowsBy, JoinsTo}, Sorted.In, declared.part.Part.Part, declared.set.DescSet.DescSet}
use Rattle.describing_set.proofs.{Parts.{deepest, part_from-few, part_from-IsPart}, Sorted.All-from_In}

-- Coordinates by dimension.

-- the concepts of coordinates in a dimension are leaf concepts
column_leaf : (h : List Dimension) (rows : List Coord) (dim : ℕ) → dim < length h → Each (IsCoordOf h) rows → (id : ℕ) → In id (column rows dim) → IsLeaf (tree h dim) id
column_leaf h [] dim lt all id i = absurd i
column_leaf h (at ∷ rows) dim lt all id i = elim i [
  | inl q ↦ subst (IsLeaf (tree h dim)) (sym q) ((All-head (IsCoordOf h) at rows all).leaf dim lt)
  | inr s ↦ column_leaf h rows dim lt (All-tail (IsCoordOf h) at rows all) id s
]

pub column-AreConcepts : (h : List Dimension) (rows : List Coord) (dim : ℕ) → dim < length h → Each (IsCoordOf h) rows → AreConcepts (tree h dim) (leaf_level (tree h dim)) (column rows dim)
column-AreConcepts h rows dim lt all = record {
  concept = λ id i. (column_leaf h rows dim lt all id i).concept;
  level = λ id i. let e = (column_leaf h rows dim lt all id i).last in omega (arith, e);
}

-- What is known of a part of a set.

pub part_at-IsPart : (h : List Dimension) (set : DescSet) (dim : ℕ) → dim < length h → IsDescSetOf h set → IsPart (tree h dim) (part_at set dim)
part_at-IsPart h set dim lt s =
    let t = tree h dim in
    subst (IsPart t) (sym (s.set_of.parts dim lt)) (part_from-IsPart t (s.hierarchy.each dim lt).tree (leaf_level t) (column s.rows dim) (column-AreConcepts h s.rows dim lt s.valid))

pub part_at-level : (h : List Dimension) (set : DescSet) (dim : ℕ) → dim < length h → IsDescSetOf h set → (part_at set dim).level ≤ leaf_level (tree h dim)
part_at-level h set dim lt s =
    let t = tree h dim in
    (deepest t (leaf_level t) (column s.rows dim) (part_at set dim) (s.set_of.parts dim lt)).level

-- a part is not deeper than a coordinate's concept
pub part_at-above : (h : List Dimension) (set : DescSet) (at : Coord) (dim : ℕ) → dim < length h → IsDescSetOf h set → IsCoordOf h at → (part_at set dim).level ≤ level_of (concept_at at dim)
part_at-above h set at dim lt s a = let low = part_at-level h set dim lt s in let e = (a.leaf dim lt).last in omega (arith, low, e)

pub IsPart-concepts : (t : Tree) (p : Part) → IsPart t p → Each (IsConcept t) p.ids.items
IsPart-concepts t p i = All-from_In (IsConcept t) p.ids.items i.concept

pub IsPart-of_level : (t : Tree) (p : Part) → IsPart t p → AreOfLevel t p.level p.ids.items
IsPart-of_level t p i = All-from_In (λ id. IsConcept t id × (level_of id ≡ p.level)) p.ids.items (λ id k. (i.concept id k, i.level id k))

pub part_at-within : (h : List Dimension) (set : DescSet) (dim : ℕ) → dim < length h → IsDescSetOf h set → (part_at set dim).level < length (tree h dim)
part_at-within h set dim lt s = let low = part_at-level h set dim lt s in let tall = (s.hierarchy.each dim lt).tree.some in omega (arith, low, tall)

-- what the code reads is the part
pub part_read : (set : DescSet) (xs : List Part) (i dim : ℕ) (x : Part) → xs ≡ set.parts.items → i ≡ dim → dim < length set.parts.items → x ≡ get_or xs i x → x ≡ part_at set dim
part_read set xs i dim x a b lt e = e ∙ ap (λ l. get_or l i x) a ∙ ap (λ k. get_or set.parts.items k x) b ∙ get_or_default set.parts.items dim x (part 0 []) lt

-- Sets as they are made.

pub IsDescSetOf-empty : (h : List Dimension) (set : DescSet) → IsHierarchy h → IsSetOf h [] set → IsDescSetOf h set
IsDescSetOf-empty h set w s = record { hierarchy = w; rows = []; valid = All-nil (IsCoordOf h); set_of = s }

-- parts of leaf levels without concepts make the set of no coordinate
pub IsSetOf-empty : (h : List Dimension) (set : DescSet) → length set.parts.items ≡ length h → ((dim : ℕ) → dim < length h → part_at set dim ≡ part (leaf_level (tree h dim)) []) → IsSetOf h [] set
IsSetOf-empty h set count f = record {
  count = count;
  parts = λ dim lt. f dim lt ∙ sym (part_from-few (tree h dim) (leaf_level (tree h dim)) [] (omega arith));
}

-- parts of leaf levels with the concept of a coordinate each make its set
pub IsSetOf-one : (h : List Dimension) (at : Coord) (set : DescSet) → IsCoordOf h at → length set.parts.items ≡ length h → ((dim : ℕ) → dim < length h → part_at set dim ≡ part (leaf_level (tree h dim)) (concept_at at dim ∷ [])) → IsSetOf h (at ∷ []) set
IsSetOf-one h at set a count f = record {
  count = count;
  parts = λ dim lt.
      let t = tree h dim in
      let id = concept_at at dim in
      let top : up t id (leaf_level t) ≡ id = up-self t id (leaf_level t) (sym (a.leaf dim lt).last) in
      f dim lt ∙ sym (part_from-few t (leaf_level t) (id ∷ []) (omega arith) ∙ ap (λ x. part (leaf_level t) (x ∷ [])) top);
}

pub IsDescSetOf-one : (h : List Dimension) (at : Coord) (set : DescSet) → IsCoordOf h at → IsSetOf h (at ∷ []) set → IsDescSetOf h set
IsDescSetOf-one h at set a s = record { hierarchy = a.hierarchy; rows = at ∷ []; valid = All-cons (IsCoordOf h) at [] a (All-nil (IsCoordOf h)); set_of = s }

-- parts that grew make a set that grew
pub grown_set : (h : List Dimension) (at : Coord) (old new : DescSet) → length new.parts.items ≡ length old.parts.items → ((dim : ℕ) → dim < length h → GrowsPart (tree h dim) (concept_at at dim) (part_at old dim) (part_at new dim)) → GrowsBy h at old new
grown_set h at old new len g = record {
  grown = λ rows all s. record {
    count = len ∙ s.count;
    parts = λ dim lt. (g dim lt).grown (leaf_level (tree h dim)) (column rows dim) (column-AreConcepts h rows dim lt all) (s.parts dim lt);
  };
}

pub IsDescSetOf-grown : (h : List Dimension) (at : Coord) (old new : DescSet) → IsDescSetOf h old → IsCoordOf h at → GrowsBy h at old new → IsDescSetOf h new
IsDescSetOf-grown h at old new s a g = record {
  hierarchy = s.hierarchy;
  rows = at ∷ s.rows;
  valid = All-cons (IsCoordOf h) at s.rows a s.valid;
  set_of = g.grown s.rows s.valid s.set_of;
}

map-append : (f : Coord → ℕ) (xs ys : List Coord) → map f (xs ++ ys) ≡ map f xs ++ map f ys
map-append f [] ys = refl
map-append f (x ∷ xs) ys = ap (λ l. f x ∷ l) (map-append f xs ys)

-- parts that are joined make a set that is joined
pub joined_set : (h : List Dimension) (left right result : DescSet) → length result.parts.items ≡ length h → ((dim : ℕ) → dim < length h → JoinsParts (tree h dim) (part_at left dim) (part_at right dim) (part_at result dim)) → JoinsTo h left right result
joined_set h left right result count j = record {
  joined = λ xs ys cx cy sx sy. record {
    count = count;
    parts = λ dim lt.
        let t = tree h dim in
        (j dim lt).joined (leaf_level t) (column xs dim) (column ys dim) (column-AreConcepts h xs dim lt cx) (column-AreConcepts h ys dim lt cy) (sx.parts dim lt) (sy.parts dim lt)
        ∙ ap (λ l. part_of t l) (sym (map-append (λ at. concept_at at dim) xs ys));
  };
}

pub IsDescSetOf-joined : (h : List Dimension) (left right result : DescSet) → IsDescSetOf h left → IsDescSetOf h right → JoinsTo h left right result → IsDescSetOf h result
IsDescSetOf-joined h left right result l r j = record {
  hierarchy = l.hierarchy;
  rows = l.rows ++ r.rows;
  valid = All-append (IsCoordOf h) l.rows r.rows l.valid r.valid;
  set_of = j.joined l.rows r.rows l.valid r.valid l.set_of r.set_of;
}

-- How far the loop of `grow` is: the parts before the dimension grew, and the others are as they were.
pub record Growing (h : List Dimension) (at : Coord) (start now : List Part) (dim : ℕ) : Type 0 where
  pub count : length now ≡ length start
  pub done : (k : ℕ) → k < dim → GrowsPart (tree h k) (concept_at at k) (get_or start k (part 0 [])) (get_or now k (part 0 []))
  pub rest : (k : ℕ) → dim ≤ k → get_or now k (part 0 []) ≡ get_or start k (part 0 [])

pub Growing-next : (h : List Dimension) (at : Coord) (start now next : List Part) (dim id : ℕ) → id ≡ concept_at at dim → dim < length now → Growing h at start now dim → PartGrows (tree h dim) dim id now next → Growing h at start next (dim + 1)
Growing-next h at start now next dim id q lt g one =
    subst (λ xs. Growing h at start xs (dim + 1)) (sym one.new_is) (record {
      count = length-set now dim one.now ∙ g.count;
      done = λ k less. elim (cases_lt k dim) [
        | inl b ↦
            let ne : k ≢ dim = omega arith in
            subst (GrowsPart (tree h k) (concept_at at k) (get_or start k (part 0 []))) (sym (get_or-set_other now dim k one.now (part 0 []) ne)) (g.done k b)
        | inr b ↦
            let is : dim ≡ k = omega arith in
            let old : get_or now dim (part 0 []) ≡ get_or start dim (part 0 []) = g.rest dim (omega arith) in
            let grown : GrowsPart (tree h dim) (concept_at at dim) (get_or start dim (part 0 [])) one.now
            = subst (λ x. GrowsPart (tree h dim) x (get_or start dim (part 0 [])) one.now) q (subst (λ o. GrowsPart (tree h dim) id o one.now) old one.grown) in
            let here : GrowsPart (tree h dim) (concept_at at dim) (get_or start dim (part 0 [])) (get_or (set now dim one.now) dim (part 0 []))
            = subst (GrowsPart (tree h dim) (concept_at at dim) (get_or start dim (part 0 []))) (sym (get_or-set_same now dim one.now (part 0 []) lt)) grown in
            subst (λ j. GrowsPart (tree h j) (concept_at at j) (get_or start j (part 0 [])) (get_or (set now dim one.now) j (part 0 []))) is here
      ];
      rest = λ k le.
          let ne : k ≢ dim = omega arith in
          let more : dim ≤ k = omega arith in
          get_or-set_other now dim k one.now (part 0 []) ne ∙ g.rest k more;
    })

pub grown_parts : (h : List Dimension) (at : Coord) (old new : DescSet) (dim : ℕ) → Growing h at old.parts.items new.parts.items dim → length h ≤ dim → GrowsBy h at old new
grown_parts h at old new dim g le = grown_set h at old new g.count (λ j lt. g.done j (omega arith))

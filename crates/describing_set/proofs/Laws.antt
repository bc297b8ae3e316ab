-- A set depends on which coordinates occur alone, there is one such set, and more coordinates have a wider one.
use Rattle.std.proofs.{Common.{ℕ, suc, ◌≡◌, ◌<◌, ◌≤◌, List, [], ◌∷◌, length, get_or, refl, sym, ap, subst, ◌∙◌, arith, inl, inr, Contains}, lemmas.Bool.cases_lt, lemmas.List.Elements.All-contains_itself}
use Rattle.std.specs.Prelude.{All as Each}
use Rattle.dim_hierarchy.specs.{Concept.level_of, Dimension.{Dimension, IsHierarchy, tree}, Row.{IsCoordOf, concept_at}, Tree.{leaf_level, up}, declared.row.Coord.Coord}
use Rattle.dim_hierarchy.proofs.Ancestors.{up-up}
use Rattle.describing_set.specs.{DescSet.{part_at, column, IsSetOf}, Part.{part, ancestors}, Sets.{IsDescSetOf, Covers, Describes, AreAmong}, Sorted.In, declared.part.Part.Part, declared.set.DescSet.DescSet}
use Rattle.describing_set.proofs.{Covering.{column-In, IsSetOf-Covers}, Parts.{IsDeepest, deepest, part_from-same, ancestors-source, In-ancestors, AreBeside-within, length-ancestors-within}, Sets.{part_at-IsPart, part_at-level, column-AreConcepts}, Sorted.{Contains-from_In, In-from_Contains, Ascends-IsStrictlyIncreasing}}

-- a coordinate with this concept
record RowAt (rows : List Coord) (dim id : ℕ) : Type 0 where
  pub at : Coord
  pub here : Contains rows at
  pub is : concept_at at dim ≡ id

column-source : (rows : List Coord) (dim id : ℕ) → In id (column rows dim) → RowAt rows dim id
column-source [] dim id i = absurd i
column-source (r ∷ rows) dim id i = elim i [
  | inl q ↦ record { at = r; here = (0, omega arith, refl); is = sym q }
  | inr s ↦ let t = column-source rows dim id s in record { at = t.at; here = (suc t.here.0, let h = t.here.1 in omega (arith, h), t.here.2); is = t.is }
]

column-within : (xs ys : List Coord) (dim : ℕ) → AreAmong xs ys → (z : ℕ) → In z (column xs dim) → In z (column ys dim)
column-within xs ys dim among z i =
    let r = column-source xs dim z i in
    subst (λ y. In y (column ys dim)) r.is (column-In ys r.at dim (among r.at r.here))

pub IsSetOf-same : (h : List Dimension) (xs ys : List Coord) (set : DescSet) → AreAmong xs ys → AreAmong ys xs → IsSetOf h xs set → IsSetOf h ys set
IsSetOf-same h xs ys set f g s = record {
  count = s.count;
  parts = λ dim lt. s.parts dim lt ∙ part_from-same (tree h dim) (leaf_level (tree h dim)) (column xs dim) (column ys dim) (column-within xs ys dim f) (column-within ys xs dim g);
}

-- lists with equal elements are equal
same_elements : (xs ys : List Part) (d : Part) → length xs ≡ length ys → ((k : ℕ) → k < length xs → get_or xs k d ≡ get_or ys k d) → xs ≡ ys
same_elements [] [] d e f = refl
same_elements [] (y ∷ ys) d e f = absurd (omega arith)
same_elements (x ∷ xs) [] d e f = absurd (omega arith)
same_elements (x ∷ xs) (y ∷ ys) d e f =
    let head : x ≡ y = f 0 (omega arith) in
    let tail = same_elements xs ys d (omega arith) (λ k lt. f (suc k) (omega arith)) in
    cc

pub IsSetOf-unique : (h : List Dimension) (rows : List Coord) (s t : DescSet) → IsSetOf h rows s → IsSetOf h rows t → s ≡ t
IsSetOf-unique h rows s t a b =
    let ca = a.count in
    let cb = b.count in
    let e : s.parts.items ≡ t.parts.items = same_elements s.parts.items t.parts.items (part 0 []) (omega arith) (λ k lt. a.parts k (omega arith) ∙ sym (b.parts k (omega arith))) in
    ap (λ xs. let r : DescSet = record { parts = record { items = xs } } in r) e

pub IsSetOf-Describes : (h : List Dimension) (rows : List Coord) (set : DescSet) → IsHierarchy h → Each (IsCoordOf h) rows → IsSetOf h rows set → Describes h rows set
IsSetOf-Describes h rows set w all s =
    let valid : IsDescSetOf h set = record { hierarchy = w; rows = rows; valid = all; set_of = s } in
    let deep : (dim : ℕ) → dim < length h → IsDeepest (tree h dim) (leaf_level (tree h dim)) (column rows dim) (part_at set dim) =
    λ dim lt. deepest (tree h dim) (leaf_level (tree h dim)) (column rows dim) (part_at set dim) (s.parts dim lt) in
    record {
      count = s.count;
      covers = λ k d lt. IsSetOf-Covers h rows set (get_or rows k d) s (All-contains_itself rows k d lt);
      beneath = λ dim id lt k.
          let t = tree h dim in
          let p = part_at set dim in
          let i : In id (ancestors t p.level (column rows dim)) = subst (In id) (deep dim lt).is (In-from_Contains p.ids.items id k) in
          let a = ancestors-source t p.level id (column rows dim) i in
          let r = column-source rows dim a.x a.here in
          (r.here.0, r.at, r.here.1, r.here.2, ap (λ x. up t x p.level) r.is ∙ a.is);
      ascending = λ dim lt. Ascends-IsStrictlyIncreasing (part_at set dim).ids.items (part_at-IsPart h set dim lt valid).ascends;
      few = λ dim lt. (part_at-IsPart h set dim lt valid).few;
      level = λ dim lt. part_at-level h set dim lt valid;
      deepest = λ dim level lt a b. (deep dim lt).over level a b;
    }

-- the set of more coordinates covers more
pub IsSetOf-wider : (h : List Dimension) (rows more : List Coord) (set other : DescSet) (at : Coord) → IsHierarchy h → Each (IsCoordOf h) more → AreAmong rows more → IsSetOf h rows set → IsSetOf h more other → IsCoordOf h at → Covers h set at → Covers h other at
IsSetOf-wider h rows more set other at w all among s o c v = record {
  ancestor = λ dim lt.
      let t = tree h dim in
      let p = part_at set dim in
      let q = part_at other dim in
      let is_tree = (w.each dim lt).tree in
      let leaf = c.leaf dim lt in
      let last : level_of (concept_at at dim) ≡ leaf_level t = leaf.last in
      let within = column-within rows more dim among in
      let kp = deepest t (leaf_level t) (column rows dim) p (s.parts dim lt) in
      let kq = deepest t (leaf_level t) (column more dim) q (o.parts dim lt) in
      let concepts = column-AreConcepts h more dim lt all in
      let valid : IsDescSetOf h other = record { hierarchy = w; rows = more; valid = all; set_of = o } in
      let few = (part_at-IsPart h other dim lt valid).few in
      let pl = kp.level in
      let ql = kq.level in
      let above : q.level ≤ p.level = elim (cases_lt p.level q.level) [
        | inl less ↦
            let many = kp.over q.level less ql in
            let fewer = length-ancestors-within t q.level (column rows dim) (column more dim) (AreBeside-within t q.level (column rows dim) (column more dim) within) in
            let same = ap length kq.is in
            absurd (omega (arith, many, fewer, same, few))
        | inr le ↦ le
      ] in
      let i : In (up t (concept_at at dim) p.level) (ancestors t p.level (column rows dim)) = subst (In (up t (concept_at at dim) p.level)) kp.is (In-from_Contains p.ids.items (up t (concept_at at dim) p.level) (v.ancestor dim lt)) in
      let a = ancestors-source t p.level (up t (concept_at at dim) p.level) (column rows dim) i in
      let ac = concepts.concept a.x (within a.x a.here) in
      let al = concepts.level a.x (within a.x a.here) in
      let e : up t a.x q.level ≡ up t (concept_at at dim) q.level =
      sym (up-up t is_tree a.x p.level q.level ac above (omega (arith, al, pl)))
      ∙ ap (λ x. up t x q.level) a.is
      ∙ up-up t is_tree (concept_at at dim) p.level q.level leaf.concept above (omega (arith, last, pl)) in
      let j : In (up t (concept_at at dim) q.level) (ancestors t q.level (column more dim)) = subst (λ x. In x (ancestors t q.level (column more dim))) e (In-ancestors t q.level a.x (column more dim) (within a.x a.here)) in
      Contains-from_In q.ids.items (up t (concept_at at dim) q.level) (subst (In (up t (concept_at at dim) q.level)) (sym kq.is) j);
}

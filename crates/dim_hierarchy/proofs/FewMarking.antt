-- Marks of a few concepts, and the pick that they stand for.
use Rattle.std.proofs.{Common.{ℕ, zero, suc, ◌≡◌, ◌+◌, ◌<◌, ◌≤◌, Bool, true, false, eqb, List, [], ◌∷◌, ◌++◌, length, get_or, take, refl, sym, ap, ◌∙◌, arith, inl, inr, eq-eqb, ◌⊎◌}, lemmas.Bool.{cases_eq, cases_lt, lt-ltb, le-ltb, ne_eqb}, lemmas.List.take_more}
use Rattle.std.specs.{BTreeMap.BTreeMap, List.{list_all, list_any}, Prelude.{All as Each, ◌==◌, ◌&&◌, filter, nat_lt}}
use Rattle.dim_hierarchy.specs.{Compiled.{AreOfLevel, is_related}, Concept.level_of, FewMarks.{noted_in, lineages, HasLineage, mark_down, few_mark, has_few_mark, AreNoted, AreFewMarks, NotesWay}, Filter.is_picked, Lineage.lineage_of, Marks.{mark, mark_more, listed_mark, noted, raised}, Tree.{Tree, IsConcept, IsLeaf, IsTree, is_under, parent, up}, declared.few_marks.FewMarks.FewMarks, declared.filter.Pick.Pick, declared.filter.Pick.TheVariants.Ids}
use Rattle.dim_hierarchy.proofs.{Ancestors.{up-IsConcept, level_of-up, up-self, up-up, up-parent, is_under-at, is_under-below}, Compiling.{list_all-same, list_any-same, filter-same}, Lineages.level_within, Marking.{mark_under, mark_some, picked_top, picked_parent, listed_more}}

-- What a mark says.

-- the parent of an ancestor is the ancestor on the level above
parent-up : (t : Tree) → IsTree t → (id level : ℕ) → IsConcept t id → suc level ≤ level_of id → parent t (up t id (suc level)) ≡ up t id level
parent-up t w id level c le =
    let u = up t id (suc level) in
    let cu = up-IsConcept t w id (suc level) c in
    let lu : level_of u ≡ suc level = level_of-up t w id (suc level) c le in
    let lp = w.parent_level u cu in
    up-self-back u (parent t u) (omega (arith, lu, lp))
    ∙ up-parent t w u level cu (omega (arith, lu))
    ∙ up-up t w id (suc level) level c (omega arith) le
  where
    up-self-back : (u q : ℕ) → level ≡ level_of q → q ≡ up t q level
    up-self-back u q e = sym (up-self t q level e)

pub mark_down-more : (marks : BTreeMap ℕ ℕ) (lineage : List ℕ) (n : ℕ) → mark_down marks lineage (n + 1) ≡ raised (mark_down marks lineage n == 2) (noted_in marks (get_or lineage n 0))
mark_down-more marks lineage n = ap (mark_down marks lineage) (next n)
  where
    next : (k : ℕ) → k + 1 ≡ suc k
    next k = omega arith

-- the mark that the concepts down to a level give is that of the ancestor there
mark_down-is : (t : Tree) → IsTree t → (p : Pick) (f : FewMarks) → (a : AreFewMarks t p f) → (id : ℕ) → IsConcept t id → (n : ℕ) → n ≤ level_of id
    → mark_down f.marks (lineage_of (lineages f) id) (suc n) ≡ mark t (Ids a.ids) (up t id n)
mark_down-is t w p f a id c zero le =
    let u = up t id 0 in
    ap (noted_in f.marks) (a.lineages_of.ancestors id 0 c le)
    ∙ a.noted_are.each u (up-IsConcept t w id 0 c)
    ∙ sym (picked_top t a.ids u (level_of-up t w id 0 c le))
mark_down-is t w p f a id c (suc m) le =
    let u = up t id (suc m) in
    let cu = up-IsConcept t w id (suc m) c in
    let lu : level_of u ≡ suc m = level_of-up t w id (suc m) c le in
    ap (λ k. raised (k == 2) (noted_in f.marks (get_or (lineage_of (lineages f) id) (suc m) 0))) (mark_down-is t w p f a id c m (omega (arith, le)))
    ∙ ap (raised (mark t (Ids a.ids) (up t id m) == 2)) (ap (noted_in f.marks) (a.lineages_of.ancestors id (suc m) c le) ∙ a.noted_are.each u cu)
    ∙ ap (λ k. raised (mark t (Ids a.ids) k == 2) (listed_mark t a.ids u)) (sym (parent-up t w id m c le))
    ∙ sym (picked_parent t w a.ids u cu (omega (arith, lu)))

pub few_mark-is : (t : Tree) → IsTree t → (p : Pick) (f : FewMarks) → AreFewMarks t p f → (id : ℕ) → IsConcept t id → few_mark f id ≡ mark t p id
few_mark-is t w p f a id c =
    ap (mark_down f.marks (lineage_of (lineages f) id)) (next (level_of id))
    ∙ mark_down-is t w p f a id c (level_of id) (omega arith)
    ∙ ap (mark t (Ids a.ids)) (up-self t id (level_of id) refl)
    ∙ ap (λ q. mark t q id) (sym a.pick)
  where
    next : (k : ℕ) → k + 1 ≡ suc k
    next k = omega arith

pub HasLineage-of : (t : Tree) → IsTree t → (p : Pick) (f : FewMarks) → AreFewMarks t p f → (id : ℕ) → IsConcept t id → HasLineage f id
HasLineage-of t w p f a id c =
    let l = c.level in let k = a.lineages_of.counts (level_of id) in let m = c.number in let few = w.few in record {
      level = level_within t (lineages f) a.lineages_of id c;
      number = omega (arith, k, m);
      long = a.lineages_of.long id c;
      few = omega (arith, l, few);
    }

-- What is read at concepts of a level.

pub have_lineages : (t : Tree) → IsTree t → (p : Pick) (f : FewMarks) → AreFewMarks t p f → (level : ℕ) (ids : List ℕ) → AreOfLevel t level ids → Each (HasLineage f) ids
have_lineages t w p f a level ids all = λ k d within. HasLineage-of t w p f a (get_or ids k d) (all k d within).0

pub few_under : (t : Tree) → IsTree t → (p : Pick) (f : FewMarks) → AreFewMarks t p f → (level : ℕ) (ids : List ℕ) → AreOfLevel t level ids
    → list_all (λ id. few_mark f id == 2) ids ≡ list_all (is_picked t p) ids
few_under t w p f a level ids all =
    list_all-same _ (is_picked t p) ids (λ k d within.
    let id = get_or ids k d in
    ap (λ m. m == 2) (few_mark-is t w p f a id (all k d within).0) ∙ mark_under t p id)

pub few_related : (t : Tree) → IsTree t → (p : Pick) (f : FewMarks) → AreFewMarks t p f → (level : ℕ) (ids : List ℕ) → AreOfLevel t level ids
    → list_any (λ id. nat_lt 0 (few_mark f id)) ids ≡ list_any (is_related t p) ids
few_related t w p f a level ids all =
    list_any-same _ (is_related t p) ids (λ k d within.
    let id = get_or ids k d in
    ap (nat_lt 0) (few_mark-is t w p f a id (all k d within).0) ∙ mark_some t p id)

-- What is read at the leaves of a column.

pub leaves_have : (t : Tree) → IsTree t → (p : Pick) (f : FewMarks) → AreFewMarks t p f → (column places : List ℕ) → Each (λ place. IsLeaf t (get_or column place 0)) places
    → Each (λ place. HasLineage f (get_or column place 0)) places
leaves_have t w p f a column places all = λ k d within. HasLineage-of t w p f a (get_or column (get_or places k d) 0) (all k d within).concept

pub few_kept : (t : Tree) → IsTree t → (p : Pick) (f : FewMarks) → AreFewMarks t p f → (column places : List ℕ) → Each (λ place. IsLeaf t (get_or column place 0)) places
    → filter (has_few_mark column f) places ≡ filter (λ place. is_picked t p (get_or column place 0)) places
few_kept t w p f a column places all =
    filter-same _ (λ place. is_picked t p (get_or column place 0)) places (λ k d within.
    let id = get_or column (get_or places k d) 0 in
    ap (λ m. m == 2) (few_mark-is t w p f a id (all k d within).concept) ∙ mark_under t p id)

-- Noting.

pub AreNoted-more : (t : Tree) (x i : ℕ) (ids : List ℕ) (old new : BTreeMap ℕ ℕ) → i < length ids → x ≡ get_or ids i x → AreNoted t (take i ids) old → NotesWay t x old new → AreNoted t (take (i + 1) ids) new
AreNoted-more t x i ids old new lt is a n =
    let more : take (i + 1) ids ≡ take i ids ++ x ∷ [] = take_more ids i x lt ∙ ap (λ y. take i ids ++ y ∷ []) (sym is) in
    record {
      each = λ id c.
          n.each id c ∙ ap (noted t x id) (a.each id c) ∙ sym (listed_more t (take i ids) x id) ∙ ap (λ l. listed_mark t l id) (sym more);
    }

-- the concepts above a listed one were noted, on the levels above this one
pub record NotesAbove (t : Tree) (x level : ℕ) (old new : BTreeMap ℕ ℕ) : Type 0 where
  pub each : (id : ℕ) → IsConcept t id → noted_in new id ≡ mark_more false (nat_lt (level_of id) level && is_under t x id) (noted_in old id)

pub NotesAbove-none : (t : Tree) (x : ℕ) (old : BTreeMap ℕ ℕ) → NotesAbove t x 0 old old
NotesAbove-none t x old = record {
  each = λ id c. sym (ap (λ (b : Bool). mark_more false (b && is_under t x id) (noted_in old id)) (le-ltb (level_of id) 0 (omega arith)));
}

swap : (a b : ℕ) → eqb a b ≡ eqb b a
swap a b = elim (cases_eq a b) [
  | inl e ↦ eq-eqb a b e ∙ sym (eq-eqb b a (sym e))
  | inr ne ↦ ne_eqb a b ne ∙ sym (ne_eqb b a (λ e. ne (sym e)))
]

-- one level more
same_lt : (a b : ℕ) → (a ≡ b → ⊥) → nat_lt a (b + 1) ≡ nat_lt a b
same_lt a b ne = elim (cases_lt a b) [
  | inl lt ↦ lt-ltb a (b + 1) (omega (arith, lt)) ∙ sym (lt-ltb a b lt)
  | inr le ↦ le-ltb a (b + 1) (beyond le) ∙ sym (le-ltb a b le)
]
  where
    beyond : b ≤ a → b + 1 ≤ a
    beyond le = elim (cases_lt b a) [
      | inl lt ↦ omega (arith, lt)
      | inr ge ↦ absurd (ne (omega (arith, le, ge)))
    ]

pub NotesAbove-more : (t : Tree) → IsTree t → (x level u : ℕ) (old now new : BTreeMap ℕ ℕ) → IsConcept t x → level < level_of x → u ≡ up t x level → NotesAbove t x level old now
    → ((id : ℕ) → noted_in new id ≡ mark_more false (id == u) (noted_in now id)) → NotesAbove t x (level + 1) old new
NotesAbove-more t w x level u old now new c lt is a n = record {
  each = λ id d. n id ∙ by id d (cases_eq (level_of id) level);
}
  where
    by : (id : ℕ) → IsConcept t id → ((level_of id ≡ level) ⊎ (level_of id ≡ level → ⊥))
        → mark_more false (id == u) (noted_in now id) ≡ mark_more false (nat_lt (level_of id) (level + 1) && is_under t x id) (noted_in old id)
    by id d (inl e) =
        let here : (id == u) ≡ is_under t x id =
        swap id u ∙ is_under-at t w x id u (eqb u id) c (omega (arith, e, lt)) (is ∙ ap (up t x) (sym e)) refl in
        let before : noted_in now id ≡ noted_in old id =
        a.each id d ∙ ap (λ (b : Bool). mark_more false (b && is_under t x id) (noted_in old id)) (le-ltb (level_of id) level (omega (arith, e))) in
        ap (λ (b : Bool). mark_more false b (noted_in now id)) here
        ∙ ap (λ (k : ℕ). mark_more false (is_under t x id) k) before
        ∙ sym (ap (λ (b : Bool). mark_more false (b && is_under t x id) (noted_in old id)) (lt-ltb (level_of id) (level + 1) (omega (arith, e))))
    by id d (inr ne) =
        let lu : level_of u ≡ level = ap level_of is ∙ level_of-up t w x level c (omega (arith, lt)) in
        ap (λ (b : Bool). mark_more false b (noted_in now id)) (ne_eqb id u (λ q. ne (ap level_of q ∙ lu)))
        ∙ a.each id d
        ∙ sym (ap (λ (b : Bool). mark_more false (b && is_under t x id) (noted_in old id)) (same_lt (level_of id) level ne))

pub NotesWay-listed : (t : Tree) → IsTree t → (x level : ℕ) (old now new : BTreeMap ℕ ℕ) → IsConcept t x → level ≡ level_of x → NotesAbove t x level old now
    → ((id : ℕ) → noted_in new id ≡ mark_more (id == x) false (noted_in now id)) → NotesWay t x old new
NotesWay-listed t w x level old now new c e a n = record {
  each = λ id d. n id ∙ by id d (cases_eq id x);
}
  where
    and_false : (b : Bool) → (b && false) ≡ false
    and_false true = refl
    and_false false = refl

    none : (id : ℕ) → IsConcept t id → (id ≡ x → ⊥) → level_of x ≤ level_of id → is_under t x id ≡ false
    none id d ne le = elim (cases_lt (level_of x) (level_of id)) [
      | inl lt ↦ sym (is_under-below t w x id false c lt refl)
      | inr ge ↦
          sym (is_under-at t w x id x false c (omega (arith, ge)) (sym (up-self t x (level_of id) (omega (arith, le, ge)))) (sym (ne_eqb x id (λ q. ne (sym q)))))
    ]

    above : (id : ℕ) → IsConcept t id → (id ≡ x → ⊥) → (nat_lt (level_of id) level && is_under t x id) ≡ is_under t x id
    above id d ne = elim (cases_lt (level_of id) level) [
      | inl lt ↦ ap (λ (b : Bool). b && is_under t x id) (lt-ltb (level_of id) level lt)
      | inr le ↦
          let z = none id d ne (omega (arith, le, e)) in
          ap (λ (b : Bool). nat_lt (level_of id) level && b) z ∙ and_false (nat_lt (level_of id) level) ∙ sym z
    ]

    by : (id : ℕ) → IsConcept t id → ((id ≡ x) ⊎ (id ≡ x → ⊥)) → mark_more (id == x) false (noted_in now id) ≡ noted t x id (noted_in old id)
    by id d (inl q) =
        let yes = eq-eqb id x q in
        ap (λ (b : Bool). mark_more b false (noted_in now id)) yes ∙ sym (ap (λ (b : Bool). mark_more b (is_under t x id) (noted_in old id)) yes)
    by id d (inr ne) =
        let no = ne_eqb id x ne in
        ap (λ (b : Bool). mark_more b false (noted_in now id)) no
        ∙ a.each id d
        ∙ ap (λ (b : Bool). mark_more false b (noted_in old id)) (above id d ne)
        ∙ sym (ap (λ (b : Bool). mark_more b (is_under t x id) (noted_in old id)) no)

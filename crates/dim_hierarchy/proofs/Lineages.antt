-- The lineages of ancestors of a tree that is made and grows.
use Rattle.std.proofs.{Common.{ℕ, zero, suc, ◌≡◌, ◌≢◌, ◌+◌, ◌-◌, ◌*◌, ◌<◌, ◌≤◌, ◌^◌, List, [], ◌∷◌, ◌++◌, length, get_or, set, refl, sym, ap, subst, ◌∙◌, arith, inl, inr, length-append}, lemmas.Bool.cases_lt, lemmas.List.{get_or_past, get_or_append_left, get_or_push, get_or-replicate, get_or-set_same, get_or-set_other, length-set, length-replicate}}
use Rattle.std.specs.Prelude.{replicate}
use Rattle.dim_hierarchy.specs.{Concept.{level_of, number_of}, Lineage.{Lineages, lineages_at, lineage_of, AreLineagesOf}, Tree.{Tree, IsConcept, IsTree, parents_at, parent, climb, up, new_tree, next_under, with_child}}
use Rattle.dim_hierarchy.proofs.{Ancestors.{up-self, up-parent}, Growth.{same_or_not, none_deeper, concept_of_new, parents_same, parents_other, IsConcept-with_child, concept_cases, IsTree-with_child}}

no_lineages : (n k : ℕ) → get_or (replicate n (let e : List (List ℕ) = [] in e)) k [] ≡ []
no_lineages n k = elim (cases_lt k n) [
  | inl h ↦ get_or-replicate n k [] [] h
  | inr h ↦ get_or_past (replicate n []) k [] (let e = length-replicate n (let x : List (List ℕ) = [] in x) in omega (arith, e, h))
]

-- the lineages of a tree with no concept but ALL
abbrev pub new_lineages : List ℕ → Lineages
new_lineages lineage = (lineage ∷ []) ∷ replicate 8 []

pub AreLineagesOf-new : (n : ℕ) (lineage : List ℕ) → length lineage ≡ 9 → get_or lineage 0 0 ≡ 0 → AreLineagesOf (new_tree n) (new_lineages lineage)
AreLineagesOf-new n lineage e z =
    record {
      levels = refl;
      counts = count;
      long = λ id c. ap (λ i. length (lineage_of (new_lineages lineage) i)) (all_of id c) ∙ e;
      ancestors = λ id level c le.
          let top = concept_of_new n id c in
          let all = all_of id c in
          let low : level ≡ 0 = omega (arith, top, le) in
          let same : level ≡ level_of id = omega (arith, top, low) in
          ap (λ i. get_or (lineage_of (new_lineages lineage) i) level 0) all ∙ ap (λ l. get_or lineage l 0) low ∙ z ∙ sym all ∙ sym (up-self (new_tree n) id level same);
    }
  where
    all_of : (id : ℕ) → IsConcept (new_tree n) id → id ≡ 0
    all_of id c =
        let top = concept_of_new n id c in
        let one : length (parents_at (new_tree n) (level_of id)) ≡ 1 = ap (λ l. length (parents_at (new_tree n) l)) top in
        let h = c.number in
        omega (arith, top, one, h)

    count : (level : ℕ) → length (lineages_at (new_lineages lineage) level) ≡ length (parents_at (new_tree n) level)
    count zero = refl
    count (suc k) = ap length (no_lineages 8 k) ∙ sym (ap length (none_deeper n k))

-- there is a level for each concept
pub level_within : (t : Tree) (lineages : Lineages) → AreLineagesOf t lineages → (id : ℕ) → IsConcept t id → level_of id < length lineages
level_within t lineages a id c = elim (cases_lt (level_of id) (length lineages)) [
  | inl h ↦ h
  | inr le ↦
      let none = ap length (get_or_past lineages (level_of id) [] le) in
      let n = a.counts (level_of id) in let k = c.number in absurd (omega (arith, none, n, k))
]

-- A concept more.

parent_stays : (t : Tree) (p id : ℕ) → level_of p + 1 < length t → IsConcept t id → parent (with_child t p) id ≡ parent t id
parent_stays t p id lt c = elim (concept_cases t p id lt (IsConcept-with_child t p id lt c)) [
  | inl o ↦ o.same
  | inr n ↦
      let q : length (parents_at t (level_of id)) ≡ length (parents_at t (level_of p + 1)) = ap (λ l. length (parents_at t l)) n.level_is in
      let a = n.number_is in let h = c.number in absurd (omega (arith, q, a, h))
]

climb_stays : (t : Tree) → IsTree t → (p : ℕ) → level_of p + 1 < length t → (n id : ℕ) → IsConcept t id → climb (with_child t p) n id ≡ climb t n id
unfolding climb
climb_stays t w p lt zero id c = refl
climb_stays t w p lt (suc n) id c =
    ap (λ k. climb (with_child t p) n k) (parent_stays t p id lt c) ∙ climb_stays t w p lt n (parent t id) (w.parent_concept id c)

up_stays : (t : Tree) → IsTree t → (p : ℕ) → level_of p + 1 < length t → (id level : ℕ) → IsConcept t id → up (with_child t p) id level ≡ up t id level
unfolding up
up_stays t w p lt id level c = climb_stays t w p lt (level_of id - level) id c

-- lineages with one more, on the level below a concept
abbrev pub with_lineage : Lineages → ℕ → List ℕ → Lineages
with_lineage lineages p lineage = set lineages (level_of p + 1) (lineages_at lineages (level_of p + 1) ++ lineage ∷ [])

-- the lineage of a concept with one number more at its end
abbrev pub longer : List ℕ → ℕ → ℕ → List ℕ
longer lineage p id = set lineage (level_of p + 1) id

-- what is known where a concept is added under another, whose lineage is given
pub record CanAddLineage (t : Tree) (lineages : Lineages) (p : ℕ) (lineage : List ℕ) : Type 0 where
  pub tree : IsTree t
  pub lineages_of : AreLineagesOf t lineages
  pub concept : IsConcept t p
  pub level : level_of p + 1 < length t
  pub room : length (parents_at t (level_of p + 1)) < 2 ^ 28
  pub long : length lineage ≡ 9
  pub lineage_is : (k : ℕ) → k ≤ level_of p → get_or lineage k 0 ≡ up t p k

pub AreLineagesOf-with_lineage : (t : Tree) (lineages : Lineages) (p : ℕ) (lineage : List ℕ) → CanAddLineage t lineages p lineage → AreLineagesOf (with_child t p) (with_lineage lineages p (longer lineage p (next_under t p)))
AreLineagesOf-with_lineage t lineages p lineage g =
    record {
      levels = length-set lineages level (lineages_at lineages level ++ own ∷ []) ∙ g.lineages_of.levels;
      counts = λ l. elim (same_or_not l level) [
        | inl q ↦
            let c = length-append (parents_at t level) (p ∷ []) in
            let d = length-append (lineages_at lineages level) (own ∷ []) in
            let f = g.lineages_of.counts level in
            let h = ap length (parents_same t p g.level) in
            let i = ap length same in
            let j : length (lineages_at (with_lineage lineages p own) level) ≡ length (parents_at (with_child t p) level) = omega (arith, c, d, f, h, i) in
            subst (λ k. length (lineages_at (with_lineage lineages p own) k) ≡ length (parents_at (with_child t p) k)) (sym q) j
        | inr ne ↦ ap length (other l ne) ∙ g.lineages_of.counts l ∙ sym (ap length (parents_other t p l ne))
      ];
      long = λ id c. elim (concept_cases t p id g.level c) [
        | inl o ↦ ap length (kept id o.concept) ∙ g.lineages_of.long id o.concept
        | inr n ↦ ap length (found id n.level_is n.number_is) ∙ length-set lineage level (next_under t p) ∙ g.long
      ];
      ancestors = λ id k c le. elim (concept_cases t p id g.level c) [
        | inl o ↦ ap (λ (x : List ℕ). get_or x k 0) (kept id o.concept) ∙ g.lineages_of.ancestors id k o.concept le ∙ sym (up_stays t g.tree p g.level id k o.concept)
        | inr n ↦
            let li = n.level_is in
            let ni = n.number_is in
            let whole : 268435456 * level_of id + number_of id ≡ id = omega arith in
            let is : id ≡ next_under t p = omega (arith, li, ni, whole) in
            ap (λ (x : List ℕ). get_or x k 0) (found id li ni) ∙ elim (same_or_not k level) [
              | inl q ↦
                  let low = g.tree.few in let lv = g.level in let ln = g.long in
                  ap (λ j. get_or own j 0) q ∙ get_or-set_same lineage level (next_under t p) 0 (omega (arith, low, lv, ln))
                  ∙ sym is ∙ sym (up-self (with_child t p) id k (q ∙ sym li))
              | inr ne ↦
                  let below : k < level_of id = omega (arith, ne, le, li) in
                  let within : k ≤ level_of p = omega (arith, below, li) in
                  get_or-set_other lineage level k (next_under t p) 0 ne ∙ g.lineage_is k within
                  ∙ sym (up_stays t g.tree p g.level p k g.concept)
                  ∙ ap (λ j. up (with_child t p) j k) (sym n.parent_is)
                  ∙ up-parent (with_child t p) (IsTree-with_child t g.tree p g.concept g.level) id k c below
            ]
      ];
    }
  where
    level : ℕ
    level = level_of p + 1

    own : List ℕ
    own = longer lineage p (next_under t p)

    same : lineages_at (with_lineage lineages p own) level ≡ lineages_at lineages level ++ own ∷ []
    same = let e = g.lineages_of.levels in let lv = g.level in let few = g.tree.few in get_or-set_same lineages level (lineages_at lineages level ++ own ∷ []) [] (omega (arith, e, lv, few))

    other : (l : ℕ) → l ≢ level → lineages_at (with_lineage lineages p own) l ≡ lineages_at lineages l
    other l ne = get_or-set_other lineages level l (lineages_at lineages level ++ own ∷ []) [] ne

    found : (id : ℕ) → level_of id ≡ level → number_of id ≡ length (parents_at t level) → lineage_of (with_lineage lineages p own) id ≡ own
    found id li ni =
        let f = g.lineages_of.counts level in
        let at : length (lineages_at lineages level) ≡ number_of id = omega (arith, f, ni) in
        ap (λ l. get_or (lineages_at (with_lineage lineages p own) l) (number_of id) []) li
        ∙ ap (λ (x : List (List ℕ)). get_or x (number_of id) []) same
        ∙ get_or_push (lineages_at lineages level) own [] (number_of id) at

    kept : (id : ℕ) → IsConcept t id → lineage_of (with_lineage lineages p own) id ≡ lineage_of lineages id
    kept id c = elim (same_or_not (level_of id) level) [
      | inl q ↦
          let f = g.lineages_of.counts level in
          let h = c.number in
          let r : length (parents_at t (level_of id)) ≡ length (parents_at t level) = ap (λ l. length (parents_at t l)) q in
          ap (λ l. get_or (lineages_at (with_lineage lineages p own) l) (number_of id) []) q
          ∙ ap (λ (x : List (List ℕ)). get_or x (number_of id) []) same
          ∙ get_or_append_left (lineages_at lineages level) (own ∷ []) [] (number_of id) (omega (arith, f, h, r))
          ∙ ap (λ l. get_or (lineages_at lineages l) (number_of id) []) (sym q)
      | inr ne ↦ ap (λ (x : List (List ℕ)). get_or x (number_of id) []) (other (level_of id) ne)
    ]

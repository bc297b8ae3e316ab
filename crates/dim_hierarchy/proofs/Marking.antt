-- Marks, and the pick that they stand for.
use Rattle.std.proofs.{Common.{ℕ, zero, suc, ◌≡◌, ◌≢◌, ◌+◌, ◌-◌, ◌*◌, ◌<◌, ◌≤◌, List, [], ◌∷◌, ◌++◌, length, get_or, set, take, refl, sym, ap, subst, ◌∙◌, arith, Bool, true, false, eqb, inl, inr, eq-eqb, ◌⊎◌}, lemmas.Bool.{cases_lt, eqb-true}, lemmas.List.{get_or-set_same, get_or-set_other, get_or_append_left, get_or_push, take_more, length-append}, lemmas.List.Folds.list_any-append}
use Rattle.std.specs.{List.list_any, Prelude.{◌||◌, ◌==◌, nat_le, nat_lt, if◌then◌else◌}}
use Rattle.dim_hierarchy.specs.{Concept.{level_of, number_of, id_of}, Filter.is_picked, Marks.{is_above, mark_of, mark, AreLevelMarks, AreUpperMarks, listed_mark, AreListed, mark_more, noted, Notes, raised, inherited, Inherits}, Tree.{Tree, IsConcept, IsTree, is_under, way_up, parent, parents_at, up}, declared.filter.Pick.Pick, declared.filter.Pick.TheVariants.Ids}
use Rattle.dim_hierarchy.proofs.Ancestors.{up-IsConcept, level_of-up, up-self, is_under-at, is_under-below}

-- What a mark says.

pub mark_under : (t : Tree) (p : Pick) (id : ℕ) → (mark t p id == 2) ≡ is_picked t p id
mark_under t p id = cases (is_picked t p id) (is_above t p id)
  where
    cases : (a b : Bool) → (mark_of a b == 2) ≡ a
    cases true b = refl
    cases false true = refl
    cases false false = refl

pub mark_greatest : (t : Tree) (p : Pick) (id : ℕ) → nat_le 2 (mark t p id) ≡ is_picked t p id
mark_greatest t p id = cases (is_picked t p id) (is_above t p id)
  where
    cases : (a b : Bool) → nat_le 2 (mark_of a b) ≡ a
    cases true b = refl
    cases false true = refl
    cases false false = refl

pub mark_some : (t : Tree) (p : Pick) (id : ℕ) → nat_lt 0 (mark t p id) ≡ (is_picked t p id || is_above t p id)
mark_some t p id = cases (is_picked t p id) (is_above t p id)
  where
    cases : (a b : Bool) → nat_lt 0 (mark_of a b) ≡ (a || b)
    cases true b = refl
    cases false true = refl
    cases false false = refl

-- Listed concepts.

pub listed_more : (t : Tree) (ids : List ℕ) (x id : ℕ) → listed_mark t (ids ++ x ∷ []) id ≡ noted t x id (listed_mark t ids id)
listed_more t ids x id =
    rw (list_any-append (λ y. id == y) ids (x ∷ []), list_any-append (λ y. is_under t y id) ids (x ∷ []))
    (cases (list_any (λ y. id == y) ids) (list_any (λ y. is_under t y id) ids) (id == x) (is_under t x id))
  where
    cases : (a b c d : Bool) → mark_of (a || (c || false)) (b || (d || false)) ≡ mark_more c d (mark_of a b)
    cases true b true d = refl
    cases true b false true = refl
    cases true b false false = refl
    cases false true true d = refl
    cases false true false true = refl
    cases false true false false = refl
    cases false false true d = refl
    cases false false false true = refl
    cases false false false false = refl

pub AreListed-more : (t : Tree) (level x i : ℕ) (ids old new : List ℕ) → i < length ids → x ≡ get_or ids i x → AreListed t level (take i ids) old → Notes t level x old new → AreListed t level (take (i + 1) ids) new
AreListed-more t level x i ids old new lt is a n =
    let more : take (i + 1) ids ≡ take i ids ++ x ∷ [] = take_more ids i x lt ∙ ap (λ y. take i ids ++ y ∷ []) (sym is) in
    record {
      each = λ id c e.
          n.each id c e ∙ ap (noted t x id) (a.each id c e) ∙ sym (listed_more t (take i ids) x id) ∙ ap (λ l. listed_mark t l id) (sym more);
    }

-- One listed concept.

differ : (a b : ℕ) → a ≢ b → eqb a b ≡ false
differ a b ne = elim (eqb a b) as (λ v. v ≡ eqb a b → v ≡ false) [
  | true ↦ λ h. absurd (ne (eqb-true a b (sym h)))
  | false ↦ λ h. refl
] refl

whole : (id : ℕ) → 268435456 * level_of id + number_of id ≡ id
whole id = omega arith

-- what is known where a listed concept is noted at the number of its ancestor
pub record At (t : Tree) (level x number : ℕ) : Type 0 where
  pub tree : IsTree t
  pub concept : IsConcept t x
  pub deep : level ≤ level_of x
  pub is : number ≡ number_of (up t x level)

pub At-up : (t : Tree) → IsTree t → (level x u number : ℕ) → IsConcept t x → level ≤ level_of x → u ≡ up t x level → number ≡ number_of u → At t level x number
At-up t w level x u number c le e n = record { tree = w; concept = c; deep = le; is = n ∙ ap number_of e }

-- the place of the ancestor is in range
pub at_within : (t : Tree) (level x number : ℕ) → At t level x number → number < length (parents_at t level)
at_within t level x number a =
    let c = up-IsConcept t a.tree x level a.concept in
    let l = level_of-up t a.tree x level a.concept a.deep in
    let e : length (parents_at t (level_of (up t x level))) ≡ length (parents_at t level) = ap (λ k. length (parents_at t k)) l in
    let n = c.number in let is = a.is in omega (arith, n, e, is)

-- a concept of the level lies above the listed one where it has the ancestor's number
above_is : (t : Tree) (level x number id : ℕ) → At t level x number → level_of id ≡ level → is_under t x id ≡ eqb (up t x level) id
above_is t level x number id a e =
    let le = a.deep in
    sym (is_under-at t a.tree x id (up t x level) (eqb (up t x level) id) a.concept (omega (arith, le, e)) (ap (up t x) (sym e)) refl)

is_ancestor : (t : Tree) (level x number id : ℕ) → At t level x number → level_of id ≡ level → number_of id ≡ number → up t x level ≡ id
is_ancestor t level x number id a e n =
    let l = level_of-up t a.tree x level a.concept a.deep in
    let is = a.is in
    let u = whole (up t x level) in
    let i = whole id in
    omega (arith, l, e, n, is, u, i)

above : (t : Tree) (level x number id : ℕ) → At t level x number → level_of id ≡ level → number_of id ≡ number → is_under t x id ≡ true
above t level x number id a e n = above_is t level x number id a e ∙ eq-eqb (up t x level) id (is_ancestor t level x number id a e n)

not_above : (t : Tree) (level x number id : ℕ) → At t level x number → level_of id ≡ level → number_of id ≢ number → is_under t x id ≡ false
not_above t level x number id a e ne =
    above_is t level x number id a e ∙ differ (up t x level) id (λ q. ne (ap number_of (sym q) ∙ sym a.is))

-- a concept that is neither the listed one nor above it keeps its mark
noted_not : (t : Tree) (x id old : ℕ) → id ≢ x → is_under t x id ≡ false → noted t x id old ≡ old
noted_not t x id old ne u = rw (differ id x ne, u) refl

pub Notes-higher : (t : Tree) → IsTree t → (level x : ℕ) (marks : List ℕ) → IsConcept t x → level_of x < level → Notes t level x marks marks
Notes-higher t w level x marks cx lt = record {
  each = λ id c e.
      let ne : id ≢ x = λ q. let l = ap level_of q in absurd (omega (arith, l, e, lt)) in
      sym (noted_not t x id _ ne (sym (is_under-below t w x id false cx (omega (arith, e, lt)) refl)));
}

pub Notes-here : (t : Tree) (level x number : ℕ) (marks : List ℕ) → At t level x number → level_of x ≡ level → number < length marks → Notes t level x marks (set marks number 2)
Notes-here t level x number marks a el lt = record {
  each = λ id c e. elim (same_or (number_of id) number) [
    | inl n ↦
        let is : id ≡ x = sym (is_ancestor t level x number id a e n) ∙ up-self t x level (sym el) in
        ap (λ k. get_or (set marks number 2) k 0) n ∙ get_or-set_same marks number 2 0 lt ∙ sym (rw (eq-eqb id x is) refl)
    | inr ne ↦
        let other : id ≢ x = λ q. ne (ap number_of (q ∙ sym (up-self t x level (sym el))) ∙ sym a.is) in
        get_or-set_other marks number (number_of id) 2 0 ne ∙ sym (noted_not t x id _ other (not_above t level x number id a e ne))
  ];
}
  where
    same_or : (a b : ℕ) → (a ≡ b) ⊎ (a ≢ b)
    same_or a b = grind arith

pub Notes-first : (t : Tree) (level x number : ℕ) (marks : List ℕ) → At t level x number → level < level_of x → number < length marks → get_or marks number 0 ≡ 0 → Notes t level x marks (set marks number 1)
Notes-first t level x number marks a deep lt z = record {
  each = λ id c e.
      let other : id ≢ x = λ q. let l = ap level_of q in absurd (omega (arith, l, e, deep)) in
      elim (same_or (number_of id) number) [
        | inl n ↦
            let old : get_or marks (number_of id) 0 ≡ 0 = ap (λ k. get_or marks k 0) n ∙ z in
            ap (λ k. get_or (set marks number 1) k 0) n ∙ get_or-set_same marks number 1 0 lt
            ∙ sym (rw (differ id x other, above t level x number id a e n, old) refl)
        | inr ne ↦ get_or-set_other marks number (number_of id) 1 0 ne ∙ sym (noted_not t x id _ other (not_above t level x number id a e ne))
      ];
}
  where
    same_or : (a b : ℕ) → (a ≡ b) ⊎ (a ≢ b)
    same_or a b = grind arith

pub Notes-again : (t : Tree) (level x number : ℕ) (marks : List ℕ) → At t level x number → level < level_of x → get_or marks number 0 ≢ 0 → Notes t level x marks marks
Notes-again t level x number marks a deep nz = record {
  each = λ id c e.
      let other : id ≢ x = λ q. let l = ap level_of q in absurd (omega (arith, l, e, deep)) in
      elim (same_or (number_of id) number) [
        | inl n ↦
            let old : (get_or marks (number_of id) 0 == 0) ≡ false = ap (λ k. get_or marks k 0 == 0) n ∙ differ (get_or marks number 0) 0 nz in
            sym (rw (differ id x other, above t level x number id a e n, old) refl)
        | inr ne ↦ sym (noted_not t x id _ other (not_above t level x number id a e ne))
      ];
}
  where
    same_or : (a b : ℕ) → (a ≡ b) ⊎ (a ≢ b)
    same_or a b = grind arith

-- What a concept has of its parent.

pub any_or : (p q : ℕ → Bool) (xs : List ℕ) → list_any (λ x. p x || q x) xs ≡ (list_any p xs || list_any q xs)
any_or p q [] = refl
any_or p q (x ∷ xs) = rw (any_or p q xs) (swap (p x) (q x) (list_any p xs) (list_any q xs))
  where
    swap : (a b c d : Bool) → ((a || b) || (c || d)) ≡ ((a || c) || (b || d))
    swap true b c d = refl
    swap false true true d = refl
    swap false true false d = refl
    swap false false c d = refl

any_same : (p q : ℕ → Bool) (xs : List ℕ) → ((x : ℕ) → p x ≡ q x) → list_any p xs ≡ list_any q xs
any_same p q [] e = refl
any_same p q (x ∷ xs) e = rw (e x, any_same p q xs e) refl

under_top : (t : Tree) (id x n : ℕ) → level_of id ≡ n → n ≡ 0 → is_under t id x ≡ (id == x)
unfolding is_under way_up
under_top t id x zero e z = rw e (or_false (id == x))
  where
    or_false : (b : Bool) → (b || false) ≡ b
    or_false true = refl
    or_false false = refl
under_top t id x (suc n) e z = absurd (omega arith)

under_parent : (t : Tree) (id x n : ℕ) → level_of id ≡ suc n → level_of (parent t id) ≡ n → is_under t id x ≡ ((id == x) || is_under t (parent t id) x)
unfolding is_under way_up
under_parent t id x n e p =
    ap (λ k. list_any (λ a. eqb a x) (way_up t k id)) e ∙ ap (λ k. (id == x) || list_any (λ a. eqb a x) (way_up t k (parent t id))) (sym p)

pub picked_top : (t : Tree) (ids : List ℕ) (id : ℕ) → level_of id ≡ 0 → mark t (Ids ids) id ≡ listed_mark t ids id
picked_top t ids id z =
    ap (λ b. mark_of b (is_above t (Ids ids) id)) (any_same (is_under t id) (λ x. id == x) ids (λ x. under_top t id x (level_of id) refl z))

pub picked_parent : (t : Tree) → IsTree t → (ids : List ℕ) (id : ℕ) → IsConcept t id → 0 < level_of id
    → mark t (Ids ids) id ≡ raised (mark t (Ids ids) (parent t id) == 2) (listed_mark t ids id)
picked_parent t w ids id c lt =
    let n = level_of id - 1 in
    let e : level_of id ≡ suc n = omega (arith, lt) in
    let p = w.parent_level id c in
    let picked : is_picked t (Ids ids) id ≡ (list_any (λ x. id == x) ids || is_picked t (Ids ids) (parent t id)) =
    any_same (is_under t id) (λ x. (id == x) || is_under t (parent t id) x) ids (λ x. under_parent t id x n e p)
    ∙ any_or (λ x. id == x) (is_under t (parent t id)) ids in
    rw (mark_under t (Ids ids) (parent t id), picked) (cases (list_any (λ x. id == x) ids) (is_picked t (Ids ids) (parent t id)) (is_above t (Ids ids) id))
  where
    cases : (a b c : Bool) → mark_of (a || b) c ≡ raised b (mark_of a c)
    cases true true c = refl
    cases true false c = refl
    cases false true c = refl
    cases false false c = refl

-- the level of ALL has the marks of listing alone
pub AreLevelMarks-top : (t : Tree) (ids marks : List ℕ) → length marks ≡ length (parents_at t 0) → AreListed t 0 ids marks → AreLevelMarks t (Ids ids) 0 marks
AreLevelMarks-top t ids marks n a = record {
  count = n;
  each = λ id c e. a.each id c e ∙ sym (picked_top t ids id e);
}

pub AreLevelMarks-below : (t : Tree) → IsTree t → (level : ℕ) (ids upper old new : List ℕ) → 0 < level → length new ≡ length (parents_at t level)
    → AreLevelMarks t (Ids ids) (level - 1) upper → AreListed t level ids old → Inherits t level upper old new → AreLevelMarks t (Ids ids) level new
AreLevelMarks-below t w level ids upper old new lt n u a i = record {
  count = n;
  each = λ id c e.
      let p = w.parent_level id c in
      let above : get_or upper (number_of (parent t id)) 0 ≡ mark t (Ids ids) (parent t id) = u.each (parent t id) (w.parent_concept id c) (omega (arith, p, e)) in
      i.each id c e ∙ ap (inherited t upper id) (a.each id c e)
      ∙ ap (λ m. raised (m == 2) (listed_mark t ids id)) above
      ∙ sym (picked_parent t w ids id c (omega (arith, e, lt)));
}

-- Concepts by number.

pub level_of-id_of : (level n : ℕ) → n < 268435456 → level_of (id_of level n) ≡ level
level_of-id_of level n lt = omega (arith, lt)

pub number_of-id_of : (level n : ℕ) → n < 268435456 → number_of (id_of level n) ≡ n
number_of-id_of level n lt = omega (arith, lt)

-- The loop in which the concepts of a level take the marks of their parents.

pub record Inheriting (t : Tree) (level : ℕ) (upper : List ℕ) (number : ℕ) (old new : List ℕ) : Type 0 where
  pub before : (id : ℕ) → IsConcept t id → level_of id ≡ level → number_of id < number → get_or new (number_of id) 0 ≡ inherited t upper id (get_or old (number_of id) 0)
  pub after : (n : ℕ) → number ≤ n → get_or new n 0 ≡ get_or old n 0

pub Inheriting-more : (t : Tree) (level : ℕ) (upper : List ℕ) (number id : ℕ) (old now new : List ℕ) → number < 268435456 → id ≡ id_of level number → number < length now
    → new ≡ (if get_or upper (number_of (parent t id)) 0 == 2 then set now (number_of id) 2 else now)
    → Inheriting t level upper number old now → Inheriting t level upper (number + 1) old new
Inheriting-more t level upper number id old now new few is lt e i =
    go (get_or upper (number_of (parent t id)) 0 == 2) refl e
  where
    here : number_of id ≡ number
    here = ap number_of is ∙ number_of-id_of level number few

    one : (other : ℕ) → level_of other ≡ level → number_of other ≡ number → other ≡ id
    one other l n =
        let a = whole other in let b = whole id in let h = here in
        let k = ap level_of is ∙ level_of-id_of level number few in
        omega (arith, a, b, h, k, l, n)

    same_or : (a b : ℕ) → (a ≡ b) ⊎ (a ≢ b)
    same_or a b = grind arith

    go : (b : Bool) → b ≡ (get_or upper (number_of (parent t id)) 0 == 2) → new ≡ (if b then set now (number_of id) 2 else now) → Inheriting t level upper (number + 1) old new
    go true t2 n = record {
      before = λ other c l low. elim (same_or (number_of other) number) [
        | inl q ↦
            ap (λ m. get_or m (number_of other) 0) n ∙ ap (λ k. get_or (set now (number_of id) 2) k 0) (q ∙ sym here)
            ∙ get_or-set_same now (number_of id) 2 0 (let h = here in omega (arith, h, lt))
            ∙ ap (λ b. raised b (get_or old (number_of other) 0)) (t2 ∙ ap (λ x. get_or upper (number_of (parent t x)) 0 == 2) (sym (one other l q)))
        | inr ne ↦
            ap (λ m. get_or m (number_of other) 0) n ∙ get_or-set_other now (number_of id) (number_of other) 2 0 (λ q. ne (q ∙ here))
            ∙ i.before other c l (omega (arith, ne, low))
      ];
      after = λ k le.
          ap (λ m. get_or m k 0) n ∙ get_or-set_other now (number_of id) k 2 0 (λ q. let h = here in absurd (omega (arith, q, h, le))) ∙ i.after k (omega (arith, le));
    }
    go false t2 n = record {
      before = λ other c l low. elim (same_or (number_of other) number) [
        | inl q ↦
            ap (λ m. get_or m (number_of other) 0) n ∙ i.after (number_of other) (omega (arith, q))
            ∙ ap (λ b. raised b (get_or old (number_of other) 0)) (t2 ∙ ap (λ x. get_or upper (number_of (parent t x)) 0 == 2) (sym (one other l q)))
        | inr ne ↦ ap (λ m. get_or m (number_of other) 0) n ∙ i.before other c l (omega (arith, ne, low))
      ];
      after = λ k le. ap (λ m. get_or m k 0) n ∙ i.after k (omega (arith, le));
    }

-- Whole levels.

pub AreLevelMarks-listed : (t : Tree) → IsTree t → (level : ℕ) (ids old new : List ℕ) (upper : List (List ℕ)) → length new ≡ length (parents_at t level)
    → AreUpperMarks t (Ids ids) level upper → AreListed t level ids old → (level ≡ 0 → new ≡ old) → (0 < level → Inherits t level (get_or upper (level - 1) []) old new)
    → AreLevelMarks t (Ids ids) level new
AreLevelMarks-listed t w level ids old new upper n u a top below = elim (cases_lt 0 level) [
  | inl lt ↦ AreLevelMarks-below t w level ids (get_or upper (level - 1) []) old new lt n (u.each (level - 1) (omega (arith, lt))) a (below lt)
  | inr le ↦
      let z : level ≡ 0 = omega (arith, le) in
      let q : new ≡ old = top z in
      let n0 : length old ≡ length (parents_at t 0) = sym (ap length q) ∙ n ∙ ap (λ l. length (parents_at t l)) z in
      let all : AreLevelMarks t (Ids ids) 0 old = AreLevelMarks-top t ids old n0 (subst (λ l. AreListed t l ids old) z a) in
      subst (λ l. AreLevelMarks t (Ids ids) l new) (sym z) (subst (AreLevelMarks t (Ids ids) 0) (sym q) all)
]

pub AreUpperMarks-more : (t : Tree) (p : Pick) (n : ℕ) (marks : List (List ℕ)) (more : List ℕ) → AreUpperMarks t p n marks → AreLevelMarks t p n more → AreUpperMarks t p (n + 1) (marks ++ more ∷ [])
AreUpperMarks-more t p n marks more u m = record {
  count = length-append marks (more ∷ []) ∙ ap (λ k. k + 1) u.count;
  each = λ level lt. elim (cases_lt level n) [
    | inl h ↦ subst (AreLevelMarks t p level) (sym (get_or_append_left marks (more ∷ []) [] level (let c = u.count in omega (arith, c, h)))) (u.each level h)
    | inr le ↦
        let is : level ≡ n = omega (arith, le, lt) in
        let at : length marks ≡ level = u.count ∙ sym is in
        subst (AreLevelMarks t p level) (sym (get_or_push marks more [] level at)) (subst (λ l. AreLevelMarks t p l more) (sym is) m)
  ];
}

-- a list that was written over whole
pub all_written : (n : ℕ) (xs rest : List ℕ) → length xs ≡ n → take n (xs ++ rest) ≡ xs
all_written zero [] rest e = refl
all_written zero (x ∷ xs) rest e = absurd (omega arith)
all_written (suc n) [] rest e = absurd (omega arith)
all_written (suc n) (x ∷ xs) rest e = ap (λ l. x ∷ l) (all_written n xs rest (omega arith))

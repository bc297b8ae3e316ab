-- The part of a list of concepts: that it is the deepest with at most six, and how it grows.
use Rattle.std.proofs.{Common.{ℕ, zero, suc, ◌≡◌, ◌+◌, ◌-◌, ◌<◌, ◌≤◌, true, false, nat_le, List, [], ◌∷◌, ◌++◌, length, map, take, get_or, refl, sym, ap, subst, ◌∙◌, arith, inl, inr, ◌⊎◌}, Math.Nat.eq-or-lt_of_le, lemmas.Bool.cases_lt, lemmas.Bool.Decides.nat_tests, lemmas.List.{length-map, take_more, take_all}}
use Rattle.dim_hierarchy.specs.{Concept.level_of, Tree.{Tree, IsConcept, IsTree, up}}
use Rattle.dim_hierarchy.proofs.Ancestors.{up-up, up-IsConcept, level_of-up, concept_at_top}
use Rattle.describing_set.specs.{Ascending.with_id, Part.{part, part_from, ancestors}, Parts.{AreConcepts, IsPart, GrowsPart, JoinsParts}, Sorted.{In, Ascends}, declared.part.Part.Part}
use Rattle.describing_set.proofs.{Membership.with_id-member, Sorted.{length-ascending-within, In-take, In-append_left, In-append_right, In-append_cases, In-map, In-map-source, Source, In-ascending, In-from_ascending, In-with_id-cases, ascending-same, Ascends-ascending, Ascends-with_id, length-ascending, length-with_id-ge, length-with_id-le}}

-- Ancestors.

pub In-ancestors : (t : Tree) (level x : ℕ) (ids : List ℕ) → In x ids → In (up t x level) (ancestors t level ids)
In-ancestors t level x ids i =
    In-ascending (up t x level) (map (λ id. up t id level) ids) (In-map (λ id. up t id level) x ids i)

pub ancestors-source : (t : Tree) (level z : ℕ) (ids : List ℕ) → In z (ancestors t level ids) → Source (λ id. up t id level) z ids
ancestors-source t level z ids i =
    In-map-source (λ id. up t id level) z ids (In-from_ascending z (map (λ id. up t id level) ids) i)

-- each concept has its ancestor at the level among those of the other list
abbrev pub AreBeside : Tree → ℕ → List ℕ → List ℕ → Type 0
AreBeside t level xs ys = (x : ℕ) → In x xs → Source (λ id. up t id level) (up t x level) ys

pub AreBeside-within : (t : Tree) (level : ℕ) (xs ys : List ℕ) → ((x : ℕ) → In x xs → In x ys) → AreBeside t level xs ys
AreBeside-within t level xs ys f x i = record { x = x; here = f x i; is = refl }

map-within : (t : Tree) (level : ℕ) (xs ys : List ℕ) → AreBeside t level xs ys → (z : ℕ) → In z (map (λ id. up t id level) xs) → In z (map (λ id. up t id level) ys)
map-within t level xs ys f z i =
    let s = In-map-source (λ id. up t id level) z xs i in
    let r = f s.x s.here in
    subst (λ y. In y (map (λ id. up t id level) ys)) (r.is ∙ s.is) (In-map (λ id. up t id level) r.x ys r.here)

pub ancestors-same : (t : Tree) (level : ℕ) (xs ys : List ℕ) → AreBeside t level xs ys → AreBeside t level ys xs → ancestors t level xs ≡ ancestors t level ys
ancestors-same t level xs ys f g =
    ascending-same (map (λ id. up t id level) xs) (map (λ id. up t id level) ys) (map-within t level xs ys f) (map-within t level ys xs g)

-- more concepts have no fewer ancestors
pub length-ancestors-within : (t : Tree) (level : ℕ) (xs ys : List ℕ) → AreBeside t level xs ys → length (ancestors t level xs) ≤ length (ancestors t level ys)
length-ancestors-within t level xs ys f =
    length-ascending-within (map (λ id. up t id level) xs) (map (λ id. up t id level) ys) (map-within t level xs ys f)

-- ancestors of ancestors
ancestors-beside : (t : Tree) → IsTree t → (high low : ℕ) (ids : List ℕ) → low ≤ high → AreConcepts t high ids → AreBeside t low (ancestors t high ids) ids
ancestors-beside t w high low ids h c x i =
    let s = ancestors-source t high x ids i in
    record { x = s.x; here = s.here; is = sym (up-up t w s.x high low (c.concept s.x s.here) h (c.level s.x s.here)) ∙ ap (λ y. up t y low) s.is }

beside-ancestors : (t : Tree) → IsTree t → (high low : ℕ) (ids : List ℕ) → low ≤ high → AreConcepts t high ids → AreBeside t low ids (ancestors t high ids)
beside-ancestors t w high low ids h c x i =
    record { x = up t x high; here = In-ancestors t high x ids i; is = up-up t w x high low (c.concept x i) h (c.level x i) }

pub ancestors-ancestors : (t : Tree) → IsTree t → (high low : ℕ) (ids : List ℕ) → low ≤ high → AreConcepts t high ids → ancestors t low (ancestors t high ids) ≡ ancestors t low ids
ancestors-ancestors t w high low ids h c =
    ancestors-same t low (ancestors t high ids) ids (ancestors-beside t w high low ids h c) (beside-ancestors t w high low ids h c)

-- The part of a list.

is_few : (x y : ℕ) → x ≤ y → nat_le x y ≡ true
is_few x y h = grind (arith, nat_tests)

not_few : (x y : ℕ) → y < x → nat_le x y ≡ false
not_few x y h = grind (arith, nat_tests)

pub part_from-few : (t : Tree) (level : ℕ) (ids : List ℕ) → length (ancestors t level ids) ≤ 6 → part_from t level ids ≡ part level (ancestors t level ids)
unfolding part_from
part_from-few t zero ids h = refl
part_from-few t (suc level) ids h = rw (is_few (length (ancestors t (suc level) ids)) 6 h) refl

pub part_from-many : (t : Tree) (level : ℕ) (ids : List ℕ) → 6 < length (ancestors t (suc level) ids) → part_from t (suc level) ids ≡ part_from t level ids
unfolding part_from
part_from-many t level ids h = rw (not_few (length (ancestors t (suc level) ids)) 6 h) refl

part_from-zero : (t : Tree) (ids : List ℕ) → part_from t 0 ids ≡ part 0 (ancestors t 0 ids)
unfolding part_from
part_from-zero t ids = refl

-- the deepest level with at most 6 different ancestors: each deeper one has more
pub record IsDeepest (t : Tree) (top : ℕ) (ids : List ℕ) (p : Part) : Type 0 where
  pub level : p.level ≤ top
  pub is : p.ids.items ≡ ancestors t p.level ids
  pub over : (l : ℕ) → p.level < l → l ≤ top → 6 < length (ancestors t l ids)

part_from-IsDeepest : (t : Tree) (top : ℕ) (ids : List ℕ) → IsDeepest t top ids (part_from t top ids)
part_from-IsDeepest t zero ids = rw (part_from-zero t ids) (record { level = omega arith; is = refl; over = λ l a b. absurd (omega arith) })
part_from-IsDeepest t (suc top) ids = elim (cases_lt 6 (length (ancestors t (suc top) ids))) [
  | inl h ↦
      let r = part_from-IsDeepest t top ids in
      rw (part_from-many t top ids h) (record {
        level = omega (arith, r.level);
        is = r.is;
        over = λ l a b. elim (eq-or-lt_of_le b) [ inl e ↦ subst (λ k. 6 < length (ancestors t k ids)) (sym e) h | inr s ↦ r.over l a (omega arith) ];
      })
  | inr h ↦ rw (part_from-few t (suc top) ids h) (record { level = omega arith; is = refl; over = λ l a b. absurd (omega arith) })
]

pub deepest : (t : Tree) (top : ℕ) (ids : List ℕ) (p : Part) → p ≡ part_from t top ids → IsDeepest t top ids p
deepest t top ids p e = subst (IsDeepest t top ids) (sym e) (part_from-IsDeepest t top ids)

-- levels with too many ancestors are passed over
part_from-skip : (t : Tree) (level top : ℕ) (ids : List ℕ) → level ≤ top → ((l : ℕ) → level < l → l ≤ top → 6 < length (ancestors t l ids)) → part_from t top ids ≡ part_from t level ids
part_from-skip t level zero ids h over = let e : zero ≡ level = omega arith in ap (λ k. part_from t k ids) e
part_from-skip t level (suc top) ids h over = elim (eq-or-lt_of_le h) [
  | inl e ↦ ap (λ k. part_from t k ids) (sym e)
  | inr s ↦ part_from-many t top ids (over (suc top) s (omega arith)) ∙ part_from-skip t level top ids (omega arith) (λ l a b. over l a (omega arith))
]

-- the part depends on the ancestors alone
part_from-ancestors : (t : Tree) (top : ℕ) (xs ys : List ℕ) → ((l : ℕ) → l ≤ top → ancestors t l xs ≡ ancestors t l ys) → part_from t top xs ≡ part_from t top ys
part_from-ancestors t zero xs ys f = part_from-zero t xs ∙ ap (part 0) (f 0 (omega arith)) ∙ sym (part_from-zero t ys)
part_from-ancestors t (suc top) xs ys f =
    let same = f (suc top) (omega arith) in
    let rest = part_from-ancestors t top xs ys (λ l h. f l (omega arith)) in
    elim (cases_lt 6 (length (ancestors t (suc top) xs))) [
      | inl h ↦ part_from-many t top xs h ∙ rest ∙ sym (part_from-many t top ys (subst (λ l. 6 < length l) same h))
      | inr h ↦ part_from-few t (suc top) xs h ∙ ap (part (suc top)) same ∙ sym (part_from-few t (suc top) ys (subst (λ l. length l ≤ 6) same h))
    ]

-- so it depends on which concepts occur alone
pub part_from-same : (t : Tree) (top : ℕ) (xs ys : List ℕ) → ((z : ℕ) → In z xs → In z ys) → ((z : ℕ) → In z ys → In z xs) → part_from t top xs ≡ part_from t top ys
part_from-same t top xs ys f g =
    part_from-ancestors t top xs ys (λ l h. ancestors-same t l xs ys (AreBeside-within t l xs ys f) (AreBeside-within t l ys xs g))

-- Parts by themselves.

pub AreConcepts-less : (t : Tree) (top level : ℕ) (ids : List ℕ) → level ≤ top → AreConcepts t top ids → AreConcepts t level ids
AreConcepts-less t top level ids h c = record { concept = c.concept; level = λ id i. let a = c.level id i in omega (arith, a, h) }

AreConcepts-part : (t : Tree) (p : Part) → IsPart t p → AreConcepts t p.level p.ids.items
AreConcepts-part t p i = record { concept = i.concept; level = λ id m. let a = i.level id m in omega (arith, a) }

-- what holds of ancestors as concepts of a part
pub record AreAncestors (t : Tree) (at : ℕ) (ids : List ℕ) : Type 0 where
  pub concept : (id : ℕ) → In id ids → IsConcept t id
  pub level : (id : ℕ) → In id ids → level_of id ≡ at
  pub ascends : Ascends ids

pub ancestors-AreAncestors : (t : Tree) → IsTree t → (level : ℕ) (ids : List ℕ) → AreConcepts t level ids → AreAncestors t level (ancestors t level ids)
ancestors-AreAncestors t w level ids c = record {
  concept = λ id i. let s = ancestors-source t level id ids i in subst (IsConcept t) s.is (up-IsConcept t w s.x level (c.concept s.x s.here));
  level = λ id i. let s = ancestors-source t level id ids i in ap level_of (sym s.is) ∙ level_of-up t w s.x level (c.concept s.x s.here) (c.level s.x s.here);
  ascends = Ascends-ascending (map (λ id. up t id level) ids);
}

IsPart-ancestors : (t : Tree) (p : Part) (ids : List ℕ) → p.ids.items ≡ ids → AreAncestors t p.level ids → length ids ≤ 6 → IsPart t p
IsPart-ancestors t p ids e a few = record {
  concept = λ id i. a.concept id (subst (In id) e i);
  level = λ id i. a.level id (subst (In id) e i);
  ascends = subst Ascends (sym e) a.ascends;
  few = subst (λ l. length l ≤ 6) (sym e) few;
}

-- ALL is the one concept of level 0
one_at_top : (t : Tree) → IsTree t → (ids : List ℕ) → AreAncestors t 0 ids → length ids ≤ 1
one_at_top t w ids a = one ids (λ id i. concept_at_top t w id (a.concept id i) (a.level id i)) a.ascends
  where
    one : (xs : List ℕ) → ((id : ℕ) → In id xs → id ≡ 0) → Ascends xs → length xs ≤ 1
    one [] all b = omega arith
    one (x ∷ []) all b = omega arith
    one (x ∷ y ∷ ys) all b = let p = all x (inl refl) in let q = all y (inr (inl refl)) in absurd (omega (arith, b.0.0, p, q))

-- so a part without room for one more is not at level 0
pub full_below_top : (t : Tree) → IsTree t → (p : Part) (x : ℕ) → IsPart t p → 6 < length (with_id x p.ids.items) → 0 < p.level
full_below_top t w p x i h = elim (cases_lt 0 p.level) [
  | inl pos ↦ pos
  | inr z ↦
      let e : p.level ≡ 0 = omega arith in
      let a = one_at_top t w p.ids.items (record { concept = i.concept; level = λ id m. i.level id m ∙ e; ascends = i.ascends }) in
      let b = length-with_id-le x p.ids.items in
      absurd (omega (arith, a, b))
]

pub part_from-IsPart : (t : Tree) → IsTree t → (top : ℕ) (ids : List ℕ) → AreConcepts t top ids → IsPart t (part_from t top ids)
part_from-IsPart t w top ids c =
    let p = part_from t top ids in
    let k = part_from-IsDeepest t top ids in
    IsPart-ancestors t p (ancestors t p.level ids) k.is (ancestors-AreAncestors t w p.level ids (AreConcepts-less t top p.level ids k.level c)) (subst (λ l. length l ≤ 6) k.is (few top c))
  where
    few : (level : ℕ) → AreConcepts t level ids → length (part_from t level ids).ids.items ≤ 6
    few zero c =
        let one = one_at_top t w (ancestors t 0 ids) (ancestors-AreAncestors t w 0 ids c) in
        let six : length (ancestors t 0 ids) ≤ 6 = omega (arith, one) in
        rw (part_from-zero t ids) six
    few (suc level) c = elim (cases_lt 6 (length (ancestors t (suc level) ids))) [
      | inl h ↦ rw (part_from-many t level ids h) (few level (AreConcepts-less t (suc level) level ids (omega arith) c))
      | inr h ↦ rw (part_from-few t (suc level) ids h) h
    ]

-- The steps of the code.

-- a part with each concept replaced by its parent
pub lift-IsPart : (t : Tree) → IsTree t → (p q : Part) → IsPart t p → q.level ≡ p.level - 1 → q.ids.items ≡ ancestors t (p.level - 1) p.ids.items → IsPart t q
lift-IsPart t w p q i l e =
    let c = AreConcepts-less t p.level q.level p.ids.items (omega arith) (AreConcepts-part t p i) in
    let f : q.ids.items ≡ ancestors t q.level p.ids.items = e ∙ ap (λ k. ancestors t k p.ids.items) (sym l) in
    let six : length (ancestors t q.level p.ids.items) ≤ 6 =
    let a = length-ascending (map (λ id. up t id q.level) p.ids.items) in
    let b = length-map p.ids.items (λ id. up t id q.level) in
    omega (arith, a, b, i.few) in
    IsPart-ancestors t q (ancestors t q.level p.ids.items) f (ancestors-AreAncestors t w q.level p.ids.items c) six

-- a part with the ancestor of one concept more
pub add-IsPart : (t : Tree) → IsTree t → (p q : Part) (id : ℕ) → IsPart t p → IsConcept t id → p.level ≤ level_of id → q.level ≡ p.level → q.ids.items ≡ with_id (up t id p.level) p.ids.items → length q.ids.items ≤ 6 → IsPart t q
add-IsPart t w p q id i c h l e few = record {
  concept = λ x m. elim (cases x m) [ inl a ↦ subst (IsConcept t) (sym a) (up-IsConcept t w id p.level c) | inr b ↦ i.concept x b ];
  level = λ x m. elim (cases x m) [ inl a ↦ ap level_of a ∙ level_of-up t w id p.level c h ∙ sym l | inr b ↦ i.level x b ∙ sym l ];
  ascends = subst Ascends (sym e) (Ascends-with_id (up t id p.level) p.ids.items i.ascends);
  few = few;
}
  where
    cases : (x : ℕ) → In x q.ids.items → (x ≡ up t id p.level) ⊎ In x p.ids.items
    cases x m = In-with_id-cases (up t id p.level) x p.ids.items (subst (In x) e m)

-- How far `add` is, where the part was that of a list of concepts at the start: it has the ancestors of these, and
-- with the new concept there are too many on each level passed.
pub record Added (t : Tree) (top id : ℕ) (ids : List ℕ) (now : Part) : Type 0 where
  pub level : now.level ≤ top
  pub is : now.ids.items ≡ ancestors t now.level ids
  pub passed : part_from t top (id ∷ ids) ≡ part_from t now.level (id ∷ ids)

pub record Adding (t : Tree) (id : ℕ) (start now : Part) : Type 0 where
  pub part : IsPart t now
  pub level : now.level ≤ start.level
  pub added : (top : ℕ) (ids : List ℕ) → AreConcepts t top ids → start ≡ part_from t top ids → Added t top id ids now

pub Adding-start : (t : Tree) (id : ℕ) (start : Part) → IsPart t start → Adding t id start start
Adding-start t id start i = record {
  part = i;
  level = omega arith;
  added = λ top ids c e.
      let k = deepest t top ids start e in
      record {
        level = k.level;
        is = k.is;
        passed = part_from-skip t start.level top (id ∷ ids) k.level (λ l a b. let o = k.over l a b in let g = length-with_id-ge (up t id l) (ancestors t l ids) in omega (arith, o, g));
      };
}

pub Adding-lift : (t : Tree) → IsTree t → (id : ℕ) (start now next : Part) → Adding t id start now → 0 < now.level → 6 < length (with_id (up t id now.level) now.ids.items) → next.level ≡ now.level - 1 → next.ids.items ≡ ancestors t (now.level - 1) now.ids.items → Adding t id start next
Adding-lift t w id start now next a pos over l e = record {
  part = lift-IsPart t w now next a.part l e;
  level = let b = a.level in omega (arith, b);
  added = λ top ids c s.
      let m = a.added top ids c s in
      let up_one : now.level ≡ suc next.level = omega arith in
      let many : 6 < length (ancestors t now.level (id ∷ ids)) = subst (λ xs. 6 < length (with_id (up t id now.level) xs)) m.is over in
      record {
        level = let b = m.level in omega (arith, b);
        is =
            e ∙ ap (λ k. ancestors t k now.ids.items) (sym l) ∙ ap (λ xs. ancestors t next.level xs) m.is
            ∙ ancestors-ancestors t w now.level next.level ids (omega arith) (AreConcepts-less t top now.level ids m.level c);
        passed =
            m.passed ∙ ap (λ k. part_from t k (id ∷ ids)) up_one
            ∙ part_from-many t next.level (id ∷ ids) (subst (λ k. 6 < length (ancestors t k (id ∷ ids))) up_one many);
      };
}

pub Adding-last : (t : Tree) (id : ℕ) (start now new : Part) → Adding t id start now → new.level ≡ now.level → new.ids.items ≡ with_id (up t id now.level) now.ids.items → length new.ids.items ≤ 6 → GrowsPart t id start new
Adding-last t id start now new a l e few = record {
  grown = λ top ids c s.
      let m = a.added top ids c s in
      let is : new.ids.items ≡ ancestors t now.level (id ∷ ids) = e ∙ ap (λ xs. with_id (up t id now.level) xs) m.is in
      let six : length (ancestors t now.level (id ∷ ids)) ≤ 6 = subst (λ xs. length xs ≤ 6) is few in
      let p : new ≡ part now.level (ancestors t now.level (id ∷ ids)) = ap (λ k. part k new.ids.items) l ∙ ap (λ xs. part now.level xs) is in
      p ∙ sym (part_from-few t now.level (id ∷ ids) six) ∙ sym m.passed;
}

-- a part with the concept's ancestor is also that of the list with the concept
pub GrowsPart-kept : (t : Tree) (id : ℕ) (p : Part) → IsPart t p → In (up t id p.level) p.ids.items → GrowsPart t id p p
GrowsPart-kept t id p i here =
    Adding-last t id p p p (Adding-start t id p i) refl (sym (with_id-member (up t id p.level) p.ids.items i.ascends here)) i.few

-- How far `join_deeper` is: so many concepts of the deeper part are added.
pub record Joining (t : Tree) (start : Part) (xs : List ℕ) (k : ℕ) (now : Part) : Type 0 where
  pub part : IsPart t now
  pub level : now.level ≤ start.level
  pub joined : (top : ℕ) (ids : List ℕ) → AreConcepts t top ids → top ≤ start.level → start ≡ part_from t top ids → now ≡ part_from t top (take k xs ++ ids)

pub Joining-next : (t : Tree) (start deeper : Part) (xs : List ℕ) (k x : ℕ) (now new : Part) → xs ≡ deeper.ids.items → IsPart t deeper → start.level ≤ deeper.level → k < length xs → x ≡ get_or xs k x → Joining t start xs k now → IsPart t new → new.level ≤ now.level → GrowsPart t x now new → Joining t start xs (k + 1) new
Joining-next t start deeper xs k x now new same f le lt e j part lower grows = record {
  part = part;
  level = let a = j.level in omega (arith, a, lower);
  joined = λ top ids c h s.
      let before : (id : ℕ) → In id (take k xs) → In id deeper.ids.items = λ id i. subst (In id) same (In-take id k xs i) in
      let all : AreConcepts t top (take k xs ++ ids) = record {
        concept = λ id i. elim (In-append_cases id (take k xs) ids i) [ inl a ↦ f.concept id (before id a) | inr b ↦ c.concept id b ];
        level = λ id i. elim (In-append_cases id (take k xs) ids i) [ inl a ↦ let q = f.level id (before id a) in omega (arith, q, le, h) | inr b ↦ c.level id b ];
      } in
      let more : take (k + 1) xs ≡ take k xs ++ x ∷ [] = take_more xs k x lt ∙ ap (λ y. take k xs ++ y ∷ []) (sym e) in
      grows.grown top (take k xs ++ ids) all (j.joined top ids c h s)
      ∙ part_from-same t top (x ∷ (take k xs ++ ids)) ((take k xs ++ x ∷ []) ++ ids) (front_to_middle x (take k xs) ids) (middle_to_front x (take k xs) ids)
      ∙ ap (λ l. part_from t top (l ++ ids)) (sym more);
}
  where
    front_to_middle : (y : ℕ) (us vs : List ℕ) (z : ℕ) → In z (y ∷ (us ++ vs)) → In z ((us ++ y ∷ []) ++ vs)
    front_to_middle y us vs z i = elim i [
      | inl q ↦ In-append_left z (us ++ y ∷ []) vs (In-append_right z us (y ∷ []) (inl q))
      | inr r ↦ elim (In-append_cases z us vs r) [
        | inl a ↦ In-append_left z (us ++ y ∷ []) vs (In-append_left z us (y ∷ []) a)
        | inr b ↦ In-append_right z (us ++ y ∷ []) vs b
      ]
    ]

    middle_to_front : (y : ℕ) (us vs : List ℕ) (z : ℕ) → In z ((us ++ y ∷ []) ++ vs) → In z (y ∷ (us ++ vs))
    middle_to_front y us vs z i = elim (In-append_cases z (us ++ y ∷ []) vs i) [
      | inl a ↦ elim (In-append_cases z us (y ∷ []) a) [
        | inl b ↦ inr (In-append_left z us vs b)
        | inr b ↦ elim b [ inl q ↦ inl q | inr n ↦ absurd n ]
      ]
      | inr b ↦ inr (In-append_right z us vs b)
    ]

-- a deeper part joined into one that is not
pub joined_parts : (t : Tree) → IsTree t → (start deeper : Part) (xs : List ℕ) (k : ℕ) (result : Part) → xs ≡ deeper.ids.items → start.level ≤ deeper.level → length xs ≤ k → Joining t start xs k result → JoinsParts t start deeper result
joined_parts t w start deeper xs k result same le lt j = record {
  joined = λ top us vs cu cv eu ev.
      let m = start.level in
      let ku = deepest t top us start eu in
      let kv = deepest t top vs deeper ev in
      let cm = AreConcepts-less t top m us ku.level cu in
      let cd = AreConcepts-less t top deeper.level vs kv.level cv in
      let whole : take k xs ≡ ancestors t deeper.level vs = take_all k xs lt ∙ same ∙ kv.is in
      let over : (l : ℕ) → m < l → l ≤ top → 6 < length (ancestors t l (us ++ vs)) = λ l a b.
      let o = ku.over l a b in
      let g = length-ancestors-within t l us (us ++ vs) (AreBeside-within t l us (us ++ vs) (λ z i. In-append_left z us vs i)) in
      omega (arith, o, g) in
      j.joined m us cm (omega arith) (eu ∙ part_from-skip t m top us ku.level ku.over)
      ∙ ap (λ l. part_from t m (l ++ us)) whole
      ∙ part_from-ancestors t m (ancestors t deeper.level vs ++ us) (us ++ vs) (λ l h. ancestors-same t l (ancestors t deeper.level vs ++ us) (us ++ vs)
      (λ x i. elim (In-append_cases x (ancestors t deeper.level vs) us i) [
        | inl a ↦ let s = ancestors-beside t w deeper.level l vs (omega arith) cd x a in record { x = s.x; here = In-append_right s.x us vs s.here; is = s.is }
        | inr b ↦ record { x = x; here = In-append_left x us vs b; is = refl }
      ])
      (λ x i. elim (In-append_cases x us vs i) [
        | inl a ↦ record { x = x; here = In-append_right x (ancestors t deeper.level vs) us a; is = refl }
        | inr b ↦ let s = beside-ancestors t w deeper.level l vs (omega arith) cd x b in record { x = s.x; here = In-append_left s.x (ancestors t deeper.level vs) us s.here; is = s.is }
      ]))
      ∙ sym (part_from-skip t m top (us ++ vs) ku.level over);
}

pub JoinsParts-swap : (t : Tree) (left right result : Part) → JoinsParts t left right result → JoinsParts t right left result
JoinsParts-swap t left right result j = record {
  joined = λ top us vs cu cv eu ev.
      let swap : (xs ys : List ℕ) (z : ℕ) → In z (xs ++ ys) → In z (ys ++ xs) = λ xs ys z i. elim (In-append_cases z xs ys i) [ inl a ↦ In-append_right z ys xs a | inr b ↦ In-append_left z ys xs b ] in
      j.joined top vs us cv cu ev eu ∙ part_from-same t top (vs ++ us) (us ++ vs) (swap vs us) (swap us vs);
}

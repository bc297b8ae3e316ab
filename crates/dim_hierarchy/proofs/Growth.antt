-- Trees, dimensions and hierarchies as they are made and grow.
use Rattle.std.proofs.{Common.{ℕ, zero, suc, ◌≡◌, ◌≢◌, ◌+◌, ◌-◌, ◌*◌, ◌<◌, ◌≤◌, ◌^◌, List, [], ◌∷◌, ◌++◌, length, get_or, set, drop, refl, sym, ap, subst, ◌∙◌, arith, inl, inr, ◌⊎◌, lit<, length-append, length-drop, add-one, false}, lemmas.Bool.{cases_lt, false≢true}, lemmas.List.{get_or_past, get_or_append_left, get_or_push, get_or-replicate, get_or-set_same, get_or-set_other, get_or-drop, length-set, length-replicate}, lemmas.List.Elements.{All-nil, All-push, All-weaker, Contains-append_left, Contains-push}, lemmas.List.Quantifiers.all_pairs_push, lemmas.List.Sums.{get_or-le-sum_by, sum_by-set, sum_by-append}, lemmas.Slice.Eq.bytes_eq-Decides}
use Rattle.std.specs.{Cmp.Lexicographic.slice_cmp, Ordering.nat_cmp, Prelude.{None, Some, Contains, replicate, sum_by}, Str.bytes_eq}
use Rattle.std.specs.FinMap as map
use Rattle.dim_hierarchy.specs.{Concept.{level_of, number_of}, Counted.{IsCounted, concept_count}, Dimension.{Dimension, IsDimension, IsHierarchy, IsOrderOf, dimension, no_dimension, tree, find_dim, new_dimension, with_concept}, Tree.{Tree, IsConcept, IsTree, parents_at, parent, new_tree, next_under, with_child}}
use Rattle.dim_hierarchy.proofs.{Names.{same_name, get-insert_same, get-insert_other}, Places.position-None}

pub same_or_not : (a b : ℕ) → (a ≡ b) ⊎ (a ≢ b)
same_or_not a b = grind arith

-- A tree with no concept but ALL.

pub none_deeper : (n k : ℕ) → get_or (replicate n (let e : List ℕ = [] in e)) k [] ≡ []
none_deeper n k = elim (cases_lt k n) [
  | inl h ↦ get_or-replicate n k [] [] h
  | inr h ↦ get_or_past (replicate n []) k [] (let e = length-replicate n (let x : List ℕ = [] in x) in omega (arith, e, h))
]

one_zero : (n : ℕ) → let xs : List ℕ = 0 ∷ [] in get_or xs n 0 ≡ 0
one_zero zero = refl
one_zero (suc n) = refl

pub concept_of_new : (n id : ℕ) → IsConcept (new_tree n) id → level_of id ≡ 0
concept_of_new n id c = elim (level_of id) as (λ k. k ≡ level_of id → k ≡ 0) [
  | zero ↦ λ e. refl
  | suc k ↦ λ e.
      let empty : length (parents_at (new_tree n) (level_of id)) ≡ 0 = ap (λ l. length (parents_at (new_tree n) l)) (sym e) ∙ ap length (none_deeper n k) in
      let h = c.number in absurd (omega (arith, empty, h))
] refl

pub IsTree-new_tree : (n : ℕ) → 1 ≤ n → n ≤ 8 → IsTree (new_tree n)
IsTree-new_tree n low high =
    let len = length-replicate n (let x : List ℕ = [] in x) in
    let zero_parent : (id : ℕ) → IsConcept (new_tree n) id → parent (new_tree n) id ≡ 0 = λ id c.
    ap (λ l. get_or (parents_at (new_tree n) l) (number_of id) 0) (concept_of_new n id c) ∙ one_zero (number_of id) in
    let all : IsConcept (new_tree n) 0 = record { level = omega arith; number = lit< tt } in
    record {
      some = omega (arith, len);
      few = omega (arith, len);
      top = refl;
      parent_concept = λ id c. subst (IsConcept (new_tree n)) (sym (zero_parent id c)) all;
      parent_level = λ id c. let a = ap level_of (zero_parent id c) in let b = concept_of_new n id c in omega (arith, a, b);
    }

IsOrderOf-new_tree : (n : ℕ) → IsOrderOf (new_tree n) []
unfolding IsOrderOf
IsOrderOf-new_tree n = (
  All-nil (λ id. IsConcept (new_tree n) id × (0 < level_of id)),
  λ id c h. let z = concept_of_new n id c in absurd (omega arith),
  λ i j d lt within. absurd (omega arith),
)

pub IsDimension-new_dimension : (name : List ℕ) (n : ℕ) → 1 ≤ n → n ≤ 8 → IsDimension (new_dimension name n)
IsDimension-new_dimension name n low high =
    let none = map.get-empty {X = ℕ} (slice_cmp nat_cmp) in
    record {
      tree = IsTree-new_tree n low high;
      order = IsOrderOf-new_tree n;
      named = λ q id e. let z = none q in absurd cc;
      once = λ q other id e f. let z = none q in absurd cc;
      all_named = λ id c h. let z = concept_of_new n id c in absurd (omega arith);
    }

-- A tree with a concept more.

pub parents_same : (t : Tree) (p : ℕ) → level_of p + 1 < length t → parents_at (with_child t p) (level_of p + 1) ≡ parents_at t (level_of p + 1) ++ p ∷ []
parents_same t p lt = get_or-set_same t (level_of p + 1) (parents_at t (level_of p + 1) ++ p ∷ []) [] lt

pub parents_other : (t : Tree) (p level : ℕ) → level ≢ level_of p + 1 → parents_at (with_child t p) level ≡ parents_at t level
parents_other t p level ne = get_or-set_other t (level_of p + 1) level (parents_at t (level_of p + 1) ++ p ∷ []) [] ne

-- the concepts of before stay
pub IsConcept-with_child : (t : Tree) (p id : ℕ) → level_of p + 1 < length t → IsConcept t id → IsConcept (with_child t p) id
IsConcept-with_child t p id lt c =
    let level = level_of p + 1 in
    record {
      level = let e = length-set t level (parents_at t level ++ p ∷ []) in let h = c.level in omega (arith, e, h);
      number = elim (same_or_not (level_of id) level) [
        | inl e ↦
            let q : length (parents_at (with_child t p) (level_of id)) ≡ length (parents_at t level ++ p ∷ []) = ap (λ l. length (parents_at (with_child t p) l)) e ∙ ap length (parents_same t p lt) in
            let r = length-append (parents_at t level) (p ∷ []) in
            let s : length (parents_at t (level_of id)) ≡ length (parents_at t level) = ap (λ l. length (parents_at t l)) e in
            let h = c.number in
            omega (arith, q, r, s, h)
        | inr ne ↦
            let q : length (parents_at (with_child t p) (level_of id)) ≡ length (parents_at t (level_of id)) = ap length (parents_other t p (level_of id) ne) in
            let h = c.number in
            omega (arith, q, h)
      ];
    }

-- a concept after the growth is one of before with its parent, or the new one
pub record WasThere (t : Tree) (p id : ℕ) : Type 0 where
  pub concept : IsConcept t id
  pub same : parent (with_child t p) id ≡ parent t id

pub record IsNew (t : Tree) (p id : ℕ) : Type 0 where
  pub level_is : level_of id ≡ level_of p + 1
  pub number_is : number_of id ≡ length (parents_at t (level_of p + 1))
  pub parent_is : parent (with_child t p) id ≡ p

pub concept_cases : (t : Tree) (p id : ℕ) → level_of p + 1 < length t → IsConcept (with_child t p) id → WasThere t p id ⊎ IsNew t p id
concept_cases t p id lt c =
    let level = level_of p + 1 in
    let len = length-set t level (parents_at t level ++ p ∷ []) in
    elim (same_or_not (level_of id) level) [
      | inl e ↦
          let xs = parents_at t level in
          let q : parents_at (with_child t p) (level_of id) ≡ xs ++ p ∷ [] = ap (λ l. parents_at (with_child t p) l) e ∙ parents_same t p lt in
          let r = length-append xs (p ∷ []) in
          let ql = ap length q in
          let s : parents_at t (level_of id) ≡ xs = ap (λ l. parents_at t l) e in
          let sl = ap length s in
          let h = c.number in
          elim (cases_lt (number_of id) (length xs)) [
            | inl old ↦ inl (record {
              concept = record { level = let a = c.level in omega (arith, a, len); number = omega (arith, old, sl) };
              same = ap (λ l. get_or l (number_of id) 0) q ∙ get_or_append_left xs (p ∷ []) 0 (number_of id) old ∙ ap (λ l. get_or l (number_of id) 0) (sym s);
            })
            | inr new ↦
                let at : number_of id ≡ length xs = omega (arith, new, ql, r, h) in
                inr (record { level_is = e; number_is = at; parent_is = ap (λ l. get_or l (number_of id) 0) q ∙ get_or_push xs p 0 (number_of id) (sym at) })
          ]
      | inr ne ↦
          let q = parents_other t p (level_of id) ne in
          let ql = ap length q in
          let h = c.number in
          inl (record {
            concept = record { level = let a = c.level in omega (arith, a, len); number = omega (arith, ql, h) };
            same = ap (λ l. get_or l (number_of id) 0) q;
          })
    ]

pub IsTree-with_child : (t : Tree) → IsTree t → (p : ℕ) → IsConcept t p → level_of p + 1 < length t → IsTree (with_child t p)
IsTree-with_child t w p c lt =
    let level = level_of p + 1 in
    let len = length-set t level (parents_at t level ++ p ∷ []) in
    record {
      some = let a = w.some in omega (arith, a, len);
      few = let a = w.few in omega (arith, a, len);
      top = let ne : 0 ≢ level = omega arith in parents_other t p 0 ne ∙ w.top;
      parent_concept = λ id i. elim (concept_cases t p id lt i) [
        | inl o ↦ subst (IsConcept (with_child t p)) (sym o.same) (IsConcept-with_child t p (parent t id) lt (w.parent_concept id o.concept))
        | inr n ↦ subst (IsConcept (with_child t p)) (sym n.parent_is) (IsConcept-with_child t p p lt c)
      ];
      parent_level = λ id i. elim (concept_cases t p id lt i) [
        | inl o ↦ ap level_of o.same ∙ w.parent_level id o.concept
        | inr n ↦ let a = ap level_of n.parent_is in let b = n.level_is in omega (arith, a, b)
      ];
    }

-- the new concept's level and number
pub level_of-next_under : (t : Tree) (p : ℕ) → length (parents_at t (level_of p + 1)) < 2 ^ 28 → level_of (next_under t p) ≡ level_of p + 1
level_of-next_under t p room = omega arith

pub number_of-next_under : (t : Tree) (p : ℕ) → length (parents_at t (level_of p + 1)) < 2 ^ 28 → number_of (next_under t p) ≡ length (parents_at t (level_of p + 1))
number_of-next_under t p room = omega arith

pub next_under-IsConcept : (t : Tree) (p : ℕ) → level_of p + 1 < length t → length (parents_at t (level_of p + 1)) < 2 ^ 28 → IsConcept (with_child t p) (next_under t p)
next_under-IsConcept t p lt room =
    let level = level_of p + 1 in
    let l = level_of-next_under t p room in
    let n = number_of-next_under t p room in
    let len = length-set t level (parents_at t level ++ p ∷ []) in
    let q : length (parents_at (with_child t p) (level_of (next_under t p))) ≡ length (parents_at t level ++ p ∷ []) = ap (λ k. length (parents_at (with_child t p) k)) l ∙ ap length (parents_same t p lt) in
    let r = length-append (parents_at t level) (p ∷ []) in
    record { level = omega (arith, l, len, lt); number = omega (arith, n, q, r) }

-- the new concept was none before
pub next_under-fresh : (t : Tree) (p : ℕ) → length (parents_at t (level_of p + 1)) < 2 ^ 28 → IsConcept t (next_under t p) → ⊥
next_under-fresh t p room c =
    let l = level_of-next_under t p room in
    let n = number_of-next_under t p room in
    let q = ap (λ k. length (parents_at t k)) l in
    let h = c.number in
    omega (arith, n, q, h)

-- a concept with its level and number is the new one
IsNew-next_under : (t : Tree) (p id : ℕ) → IsNew t p id → id ≡ next_under t p
IsNew-next_under t p id n =
    let a = n.level_is in
    let b = n.number_is in
    let whole : 268435456 * level_of id + number_of id ≡ id = omega arith in
    omega (arith, a, b, whole)

-- A dimension with a concept more.

-- what a growth asks for
pub record CanGrow (d : Dimension) (name : List ℕ) (p : ℕ) : Type 0 where
  pub concept : IsConcept d.tree p
  pub level : level_of p + 1 < length d.tree
  pub room : length (parents_at d.tree (level_of p + 1)) < 2 ^ 28
  pub new : map.get d.names name ≡ None

-- the new concept joins the order as its last
IsOrderOf-with_child : (t : Tree) (order : List ℕ) → IsOrderOf t order → (p : ℕ) → level_of p + 1 < length t → length (parents_at t (level_of p + 1)) < 2 ^ 28 → IsOrderOf (with_child t p) (order ++ next_under t p ∷ [])
unfolding IsOrderOf
IsOrderOf-with_child t order (concepts, whole, once) p lt room =
    let new = next_under t p in
    let l = level_of-next_under t p room in
    let grown = λ (id : ℕ). IsConcept (with_child t p) id × (0 < level_of id) in (
      All-push grown order new
          (All-weaker (λ id. IsConcept t id × (0 < level_of id)) grown (λ id c. (IsConcept-with_child t p id lt c.0, c.1)) order concepts)
          (next_under-IsConcept t p lt room, omega (arith, l)),
      λ id c h. elim (concept_cases t p id lt c) [
        | inl o ↦ Contains-append_left order (new ∷ []) id (whole id o.concept h)
        | inr n ↦ subst (Contains (order ++ new ∷ [])) (sym (IsNew-next_under t p id n)) (Contains-push order new)
      ],
      all_pairs_push (λ id later. id ≢ later) order new once
          (λ k d less same. next_under-fresh t p room (subst (IsConcept t) same (concepts k d less).0)),
    )

pub IsDimension-with_concept : (d : Dimension) → IsDimension d → (name : List ℕ) (p : ℕ) → CanGrow d name p → IsDimension (with_concept d name p)
IsDimension-with_concept d w name p g =
    let t = d.tree in
    let new = next_under t p in
    let here = get-insert_same d.names name new in
    let there : (q : List ℕ) → q ≢ name → map.get (map.insert d.names name new) q ≡ map.get d.names q = get-insert_other d.names name new in
    let old_name : (q : List ℕ) (id : ℕ) → map.get d.names q ≡ Some id → q ≢ name = λ q id e same. let z = ap (map.get d.names) same in let n = g.new in cc in
    let fresh : (q : List ℕ) → map.get d.names q ≡ Some new → ⊥ = λ q e. next_under-fresh t p g.room (w.named q new e).0 in
    record {
      tree = IsTree-with_child t w.tree p g.concept g.level;
      order = IsOrderOf-with_child t d.order w.order p g.level g.room;
      named = λ q id e. elim (same_name q name) [
        | inl same ↦
            let is : id ≡ new = let z = ap (map.get (map.insert d.names name new)) same in cc in
            subst (λ i. IsConcept (with_child t p) i × (0 < level_of i)) (sym is) (next_under-IsConcept t p g.level g.room, let l = level_of-next_under t p g.room in omega (arith, l))
        | inr other ↦
            let n = w.named q id (sym (there q other) ∙ e) in
            (IsConcept-with_child t p id g.level n.0, n.1)
      ];
      once = λ q r id e f. elim (same_name q name) [
        | inl qn ↦ elim (same_name r name) [
          | inl rn ↦ qn ∙ sym rn
          | inr other ↦
              let is : id ≡ new = let z = ap (map.get (map.insert d.names name new)) qn in cc in
              absurd (fresh r (sym (there r other) ∙ f ∙ ap Some is))
        ]
        | inr qo ↦ elim (same_name r name) [
          | inl rn ↦
              let is : id ≡ new = let z = ap (map.get (map.insert d.names name new)) rn in cc in
              absurd (fresh q (sym (there q qo) ∙ e ∙ ap Some is))
          | inr ro ↦ w.once q r id (sym (there q qo) ∙ e) (sym (there r ro) ∙ f)
        ]
      ];
      all_named = λ id c h. elim (concept_cases t p id g.level c) [
        | inl o ↦
            let n = w.all_named id o.concept h in
            (n.0, there n.0 (old_name n.0 id n.1) ∙ n.1)
        | inr n ↦ (name, here ∙ ap Some (sym (IsNew-next_under t p id n)))
      ];
    }

-- Hierarchies.

-- one dimension replaced by one of its name
pub IsHierarchy-set : (h : List Dimension) → IsHierarchy h → (dim : ℕ) (d : Dimension) → dim < length h → IsDimension d → d.name ≡ (dimension h dim).name → IsHierarchy (set h dim d)
IsHierarchy-set h w dim d lt i e = record {
  few = let a = w.few in let l = length-set h dim d in omega (arith, a, l);
  each = λ k less.
      let l = length-set h dim d in
      let within : k < length h = omega (arith, l, less) in
      elim (same_or_not k dim) [
        | inl q ↦ subst IsDimension (sym (ap (λ j. dimension (set h dim d) j) q ∙ get_or-set_same h dim d no_dimension lt)) i
        | inr ne ↦ subst IsDimension (sym (get_or-set_other h dim k d no_dimension ne)) (w.each k within)
      ];
  apart = λ j k lj lk same.
      let l = length-set h dim d in
      w.apart j k (omega (arith, l, lj)) (omega (arith, l, lk)) (sym (kept j) ∙ same ∙ kept k);
}
  where
    kept : (k : ℕ) → (dimension (set h dim d) k).name ≡ (dimension h k).name
    kept k = elim (same_or_not k dim) [
      | inl q ↦ ap (λ j. (dimension (set h dim d) j).name) q ∙ ap (λ (x : Dimension). x.name) (get_or-set_same h dim d no_dimension lt) ∙ e ∙ ap (λ j. (dimension h j).name) (sym q)
      | inr ne ↦ ap (λ (x : Dimension). x.name) (get_or-set_other h dim k d no_dimension ne)
    ]

-- one dimension more, of a new name
pub IsHierarchy-push : (h : List Dimension) → IsHierarchy h → (d : Dimension) → length h < 8 → IsDimension d → find_dim h d.name ≡ None → IsHierarchy (h ++ d ∷ [])
IsHierarchy-push h w d lt i new = record {
  few = let l = length-append h (d ∷ []) in omega (arith, l);
  each = λ k less. elim (place k less) [
    | inl old ↦ subst IsDimension (sym (get_or_append_left h (d ∷ []) no_dimension k old)) (w.each k old)
    | inr end ↦ subst IsDimension (sym (get_or_push h d no_dimension k (sym end))) i
  ];
  apart = λ j k lj lk same. elim (place j lj) [
    | inl a ↦ elim (place k lk) [
      | inl b ↦ w.apart j k a b (sym (before j a) ∙ same ∙ before k b)
      | inr b ↦ absurd (other j a (sym (before j a) ∙ same ∙ at_end k b))
    ]
    | inr a ↦ elim (place k lk) [
      | inl b ↦ absurd (other k b (sym (before k b) ∙ sym same ∙ at_end j a))
      | inr b ↦ a ∙ sym b
    ]
  ];
}
  where
    place : (k : ℕ) → k < length (h ++ d ∷ []) → (k < length h) ⊎ (k ≡ length h)
    place k less = let l = length-append h (d ∷ []) in elim (cases_lt k (length h)) [ inl a ↦ inl a | inr b ↦ inr (omega (arith, l, less)) ]

    before : (k : ℕ) → k < length h → (dimension (h ++ d ∷ []) k).name ≡ (dimension h k).name
    before k old = ap (λ (x : Dimension). x.name) (get_or_append_left h (d ∷ []) no_dimension k old)

    at_end : (k : ℕ) → k ≡ length h → (dimension (h ++ d ∷ []) k).name ≡ d.name
    at_end k end = ap (λ (x : Dimension). x.name) (get_or_push h d no_dimension k (sym end))

    other : (k : ℕ) → k < length h → (dimension h k).name ≡ d.name → ⊥
    other k old same =
        let no : bytes_eq (dimension h k).name d.name ≡ false = position-None (λ (x : Dimension). bytes_eq x.name d.name) h no_dimension new k old in
        let yes = (bytes_eq-Decides (dimension h k).name d.name).1 same in
        false≢true (sym no ∙ yes)

-- Counts.

-- the concepts of a dimension below ALL
abbrev concepts_in : Dimension → ℕ
concepts_in d = sum_by (λ (xs : List ℕ). length xs) (drop 1 d.tree)

-- a level has no more concepts than the hierarchy
pub length-parents_at-le : (h : List Dimension) (dim level : ℕ) → dim < length h → level < length (tree h dim) → 0 < level → length (parents_at (tree h dim) level) ≤ concept_count h
length-parents_at-le h dim level lt within pos =
    let t = tree h dim in
    let a = get_or-le-sum_by concepts_in h dim no_dimension lt in
    let len = length-drop 1 t in
    let b = get_or-le-sum_by (λ (xs : List ℕ). length xs) (drop 1 t) (level - 1) [] (omega (arith, len, within, pos)) in
    let e = get_or-drop 1 t (level - 1) (let x : List ℕ = [] in x) in
    let k : 1 + (level - 1) ≡ level = omega arith in
    let f : length (get_or (drop 1 t) (level - 1) []) ≡ length (parents_at t level) = ap length e ∙ ap (λ j. length (get_or t j [])) k in
    omega (arith, a, b, f)

no_concepts : (n : ℕ) → sum_by (λ (xs : List ℕ). length xs) (replicate n []) ≡ 0
no_concepts zero = refl
no_concepts (suc n) = no_concepts n

one_longer : (t : Tree) (l : ℕ) (xs : List ℕ) (p : ℕ) → suc l < length t → xs ≡ get_or t (suc l) [] → sum_by (λ (ys : List ℕ). length ys) (drop 1 (set t (suc l) (xs ++ p ∷ []))) ≡ sum_by (λ (ys : List ℕ). length ys) (drop 1 t) + 1
one_longer [] l xs p lt e = absurd (omega arith)
one_longer (x ∷ ts) l xs p lt e =
    let within : l < length ts = omega arith in
    let a = sum_by-set (λ (ys : List ℕ). length ys) ts l (xs ++ p ∷ []) [] within in
    let b = length-append xs (p ∷ []) in
    let s = ap length e in
    let c : sum_by (λ (ys : List ℕ). length ys) (set ts l (xs ++ p ∷ [])) ≡ sum_by (λ (ys : List ℕ). length ys) ts + 1 = omega (arith, a, b, s) in
    c

pub concept_count-with_concept : (h : List Dimension) (dim : ℕ) (name : List ℕ) (p : ℕ) → dim < length h → level_of p + 1 < length (tree h dim) → concept_count (set h dim (with_concept (dimension h dim) name p)) ≡ concept_count h + 1
concept_count-with_concept h dim name p lt level =
    let d = dimension h dim in
    let new = with_concept d name p in
    let a = sum_by-set concepts_in h dim new no_dimension lt in
    let s : level_of p + 1 ≡ suc (level_of p) = add-one (level_of p) in
    let b : concepts_in new ≡ concepts_in d + 1 =
    ap (λ k. sum_by (λ (xs : List ℕ). length xs) (drop 1 (set d.tree k (parents_at d.tree k ++ p ∷ [])))) s
    ∙ one_longer d.tree (level_of p) (parents_at d.tree (suc (level_of p))) p (omega arith) refl in
    omega (arith, a, b)

pub IsCounted-new_dimension : (h : List Dimension) (concepts : ℕ) (name : List ℕ) (n : ℕ) → IsCounted h concepts → length h < 8 → 1 ≤ n → n ≤ 8 → find_dim h name ≡ None → IsCounted (h ++ new_dimension name n ∷ []) concepts
IsCounted-new_dimension h concepts name n c lt low high new =
    let a = sum_by-append concepts_in h (new_dimension name n ∷ []) in
    let z : concepts_in (new_dimension name n) ≡ 0 = no_concepts n in
    let k = c.count in
    record {
      hierarchy = IsHierarchy-push h c.hierarchy (new_dimension name n) lt (IsDimension-new_dimension name n low high) new;
      count = omega (arith, a, z, k);
      few = c.few;
    }

pub IsCounted-with_concept : (h : List Dimension) (concepts dim : ℕ) (name : List ℕ) (p : ℕ) → IsCounted h concepts → concept_count h < 2 ^ 28 → dim < length h → CanGrow (dimension h dim) name p → IsCounted (set h dim (with_concept (dimension h dim) name p)) (concepts + 1)
IsCounted-with_concept h concepts dim name p c room lt g =
    let a = concept_count-with_concept h dim name p lt g.level in
    let k = c.count in
    record {
      hierarchy = IsHierarchy-set h c.hierarchy dim (with_concept (dimension h dim) name p) lt (IsDimension-with_concept (dimension h dim) (c.hierarchy.each dim lt) name p g) refl;
      count = omega (arith, a, k);
      few = omega (arith, k, room);
    }

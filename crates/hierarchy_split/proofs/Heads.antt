-- Head cuts of which one comes first, and how the first of several is found.
use Rattle.std.proofs.{Common.{ℕ, ◌≡◌, ◌+◌, ◌<◌, ◌≤◌, ◌⊎◌, true, false, Bool, cond, eqb, suc, [], ◌∷◌, Option, Some, None, List, length, get_or, refl, sym, ap, subst, ◌∙◌, arith, inl, inr}, lemmas.Bool.{cases_lt, eqb-true}, lemmas.List.Sums.sum_by-cons}
use Rattle.std.specs.{List.count_by, Prelude.{IfSome, IfNone, ◌==◌}}
use Rattle.dim_hierarchy.specs.Dimension.{Dimension}
use Rattle.hierarchy_split.specs.{Best.{IsBestWith, IsAtLeast, IsBetterOf, IsFlaggedAt}, Head.{GroupItems, IsBetterHead, IsGoodHeadCut}, declared.head_cut.HeadCut.HeadCut}

IsBetterHead-trans : (a b c : HeadCut) → IsBetterHead a b → IsBetterHead b c → IsBetterHead a c
IsBetterHead-trans a b c p q = elim p [
  | inl x ↦ inl (elim q [ inl y ↦ omega (arith, x, y) | inr y ↦ omega (arith, x, y.0) ])
  | inr x ↦ elim q [
    | inl y ↦ inl (omega (arith, x.0, y))
    | inr y ↦ inr (
      x.0 ∙ y.0,
      elim x.1 [
        | inl u ↦ inl (elim y.1 [ inl v ↦ omega (arith, u, v) | inr v ↦ omega (arith, u, v.0) ])
        | inr u ↦ elim y.1 [
          | inl v ↦ inl (omega (arith, u.0, v))
          | inr v ↦ inr (
            u.0 ∙ v.0,
            elim u.1 [
              | inl m ↦ inl (elim v.1 [ inl n ↦ omega (arith, m, n) | inr n ↦ omega (arith, m, n.0) ])
              | inr m ↦ elim v.1 [ inl n ↦ inl (omega (arith, m.0, n)) | inr n ↦ inr (m.0 ∙ n.0, omega (arith, m.1, n.1)) ]
            ],
          )
        ]
      ],
    )
  ]
]

pub record SameHeadCut (a b : HeadCut) : Type 0 where
  pub kept : a.kept ≡ b.kept
  pub level : a.level ≡ b.level
  pub dim : a.dim ≡ b.dim
  pub concept : a.concept ≡ b.concept

IsBetterHead-both : (a b : HeadCut) → IsBetterHead a b → IsBetterHead b a → SameHeadCut a b
IsBetterHead-both a b p q = elim p [
  | inl x ↦ elim q [ inl y ↦ absurd (omega (arith, x, y)) | inr y ↦ absurd (omega (arith, x, y.0)) ]
  | inr x ↦ elim q [
    | inl y ↦ absurd (omega (arith, x.0, y))
    | inr y ↦ elim x.1 [
      | inl u ↦ elim y.1 [ inl v ↦ absurd (omega (arith, u, v)) | inr v ↦ absurd (omega (arith, u, v.0)) ]
      | inr u ↦ elim y.1 [
        | inl v ↦ absurd (omega (arith, u.0, v))
        | inr v ↦ elim u.1 [
          | inl m ↦ elim v.1 [ inl n ↦ absurd (omega (arith, m, n)) | inr n ↦ absurd (omega (arith, m, n.0)) ]
          | inr m ↦ elim v.1 [
            | inl n ↦ absurd (omega (arith, m.0, n))
            | inr n ↦ record { kept = x.0; level = u.0; dim = m.0; concept = omega (arith, m.1, n.1) }
          ]
        ]
      ]
    ]
  ]
]

pub IsGoodHeadCut-unique : (h : List Dimension) (items : GroupItems) (a b : HeadCut) → IsGoodHeadCut h items a → IsGoodHeadCut h items b → a ≡ b
IsGoodHeadCut-unique h items a b p q =
    let s = IsBetterHead-both a b (p.first b q.head_cut q.good) (q.first a p.head_cut p.good) in
    let F : ℕ → ℕ → ℕ → ℕ → HeadCut = λ dim level concept kept. record { dim = dim; level = level; concept = concept; kept = kept } in
    ap (λ dim. F dim a.level a.concept a.kept) s.dim ∙ ap (λ level. F b.dim level a.concept a.kept) s.level
    ∙ ap (λ concept. F b.dim b.level concept a.kept) s.concept ∙ ap (λ kept. F b.dim b.level b.concept kept) s.kept

-- what comes before the first cut with a property comes before each cut with it
after : (P : HeadCut → Type 0) (one : Option HeadCut) (cut : HeadCut) → IsBestWith P one → IfSome one (IsAtLeast (Some cut)) → (other : HeadCut) → P other → IsBetterHead cut other
after P None cut best first other p = absurd (best other p)
after P (Some a) cut best first other p = IsBetterHead-trans cut a other first (best.first other p)

-- with no better one, no cut has the property
none_with : (P : HeadCut → Type 0) (one : Option HeadCut) → IsBestWith P one → IfSome one (IsAtLeast None) → (other : HeadCut) → ¬ P other
none_with P None best first other p = best other p
none_with P (Some a) best first other p = first

-- the better one of two is the first of the cuts that have one of the properties
pub IsBestWith-both : (P Q R : HeadCut → Type 0) (one two best : Option HeadCut) → ((cut : HeadCut) → R cut → P cut ⊎ Q cut) → ((cut : HeadCut) → P cut → R cut) → ((cut : HeadCut) → Q cut → R cut) → IsBestWith P one → IsBestWith Q two → IsBetterOf one two best → IsBestWith R best
IsBestWith-both P Q R one two None split from_p from_q p q b = λ cut r. elim (split cut r) [
  | inl x ↦ none_with P one p b.first cut x
  | inr x ↦ none_with Q two q b.second cut x
]
IsBestWith-both P Q R one two (Some cut) split from_p from_q p q b =
    let holds : R cut = elim b.either [
      | inl e ↦ let i : IsBestWith P (Some cut) = subst (IsBestWith P) (sym e) p in from_p cut i.holds
      | inr e ↦ let i : IsBestWith Q (Some cut) = subst (IsBestWith Q) (sym e) q in from_q cut i.holds
    ] in
    record {
      holds = holds;
      first = λ other r. elim (split other r) [
        | inl x ↦ after P one cut p b.first other x
        | inr x ↦ after Q two cut q b.second other x
      ];
    }

-- The concepts of a level one by one.

-- it is the least one of an item below a place
pub record IsBelow (dim level : ℕ) (leasts : List ℕ) (crossed : List Bool) (n : ℕ) (cut : HeadCut) : Type 0 where
  pub flagged : IsFlaggedAt dim level leasts crossed cut
  pub place : ℕ
  pub below : place < n
  pub is : get_or leasts place 0 ≡ cut.concept

pub record IsOfConcept (dim level : ℕ) (leasts : List ℕ) (crossed : List Bool) (concept : ℕ) (cut : HeadCut) : Type 0 where
  pub flagged : IsFlaggedAt dim level leasts crossed cut
  pub concept_is : cut.concept ≡ concept

abbrev pub IsBestBelow : ℕ → ℕ → List ℕ → List Bool → ℕ → Option HeadCut → Type 0
IsBestBelow dim level leasts crossed n best = IsBestWith (IsBelow dim level leasts crossed n) best

-- the good cut of a concept is the first of the cuts of this concept
pub IsBestWith-concept : (dim level : ℕ) (leasts : List ℕ) (crossed : List Bool) (concept : ℕ) (found : Option HeadCut) → IfSome found (λ cut. cut.concept ≡ concept) → IfSome found (IsFlaggedAt dim level leasts crossed) → IfNone found ((cut : HeadCut) → cut.concept ≡ concept → ¬ IsFlaggedAt dim level leasts crossed cut) → IsBestWith (IsOfConcept dim level leasts crossed concept) found
IsBestWith-concept dim level leasts crossed concept None is good none = λ cut i. none cut i.concept_is i.flagged
IsBestWith-concept dim level leasts crossed concept (Some cut) is good none = record {
  holds = record { flagged = good; concept_is = is };
  first = λ other i.
      let same = is ∙ sym i.concept_is in
      let kept = good.good.kept ∙ ap (λ c. count_by (λ x. x == c) leasts) same ∙ sym i.flagged.good.kept in
      inr (kept, inr (good.at_level ∙ sym i.flagged.at_level, inr (good.in_dim ∙ sym i.flagged.in_dim, omega (arith, same))));
}

pub IsBestBelow-more : (dim level : ℕ) (leasts : List ℕ) (crossed : List Bool) (n concept : ℕ) (best found now : Option HeadCut) → n < length leasts → concept ≡ get_or leasts n 0 → IsBestBelow dim level leasts crossed n best → IsBestWith (IsOfConcept dim level leasts crossed concept) found → IsBetterOf best found now → IsBestBelow dim level leasts crossed (n + 1) now
IsBestBelow-more dim level leasts crossed n concept best found now lt read b f better =
    IsBestWith-both (IsBelow dim level leasts crossed n) (IsOfConcept dim level leasts crossed concept) (IsBelow dim level leasts crossed (n + 1)) best found now
    (λ cut i. elim (cases_lt i.place n) [
      | inl less ↦ inl (record { flagged = i.flagged; place = i.place; below = less; is = i.is })
      | inr high ↦
          let low = i.below in
          let e : i.place ≡ n = omega (arith, low, high) in
          inr (record { flagged = i.flagged; concept_is = sym i.is ∙ ap (λ k. get_or leasts k 0) e ∙ sym read })
    ])
    (λ cut i. let low = i.below in record { flagged = i.flagged; place = i.place; below = omega (arith, low); is = i.is })
    (λ cut i. record { flagged = i.flagged; place = n; below = omega arith; is = sym read ∙ sym i.concept_is })
    b f better

-- a number that is counted is one of the list
counted_here : (x c : ℕ) (xs : List ℕ) (b : Bool) → eqb x c ≡ b → 0 < count_by (λ v. v == c) (x ∷ xs) → (0 < count_by (λ v. v == c) xs → (k : ℕ) × (k < length xs) × (get_or xs k 0 ≡ c)) → (k : ℕ) × (k < length (x ∷ xs)) × (get_or (x ∷ xs) k 0 ≡ c)
counted_here x c xs true e some later = (0, omega arith, eqb-true x c e)
counted_here x c xs false e some later =
    let more = sum_by-cons (λ v. cond (eqb v c) 1 0) x xs in
    let none = ap {B = ℕ} (λ b. cond b 1 0) e in
    let at = later (omega (arith, some, more, none)) in
    (suc at.0, (let lt = at.1 in omega (arith, lt)), at.2)

counted : (xs : List ℕ) (c : ℕ) → 0 < count_by (λ v. v == c) xs → (k : ℕ) × (k < length xs) × (get_or xs k 0 ≡ c)
counted [] c some = absurd (omega (arith, some))
counted (x ∷ xs) c some = counted_here x c xs (eqb x c) refl some (counted xs c)

pub best_at_all : (dim level : ℕ) (leasts : List ℕ) (crossed : List Bool) (n : ℕ) (best : Option HeadCut) → length leasts ≤ n → IsBestBelow dim level leasts crossed n best → IsBestWith (IsFlaggedAt dim level leasts crossed) best
best_at_all dim level leasts crossed n best le b = all best b
  where
    to : (cut : HeadCut) → IsFlaggedAt dim level leasts crossed cut → IsBelow dim level leasts crossed n cut
    to cut f =
        let some : 0 < count_by (λ x. x == cut.concept) leasts = let a = f.good.kept in let b = f.good.third in let c = f.good.part in omega (arith, a, b, c) in
        let at = counted leasts cut.concept some in
        let lt = at.1 in
        record { flagged = f; place = at.0; below = omega (arith, lt, le); is = at.2 }

    all : (best : Option HeadCut) → IsBestBelow dim level leasts crossed n best → IsBestWith (IsFlaggedAt dim level leasts crossed) best
    all None none = λ cut f. none cut (to cut f)
    all (Some cut) b = record { holds = b.holds.flagged; first = λ other f. b.first other (to other f) }

-- Cuts of dimensions: there is one at most in each, and how the best of them is found.
use Rattle.std.proofs.{Common.{ℕ, ◌≡◌, ◌+◌, ◌-◌, ◌<◌, ◌⊎◌, true, false, Option, Some, None, List, length, take, drop, refl, sym, ap, subst, ◌∙◌, arith, inl, inr}, lemmas.Bool.{cases_lt, false≢true}, lemmas.List.{length-map, take_rest}}
use Rattle.std.specs.{List.range_with_len, Prelude.{All, MatchOption, IfSome, IfNone, IsTrue, ◌↔◌, IsPermutation}}
use Rattle.dim_hierarchy.specs.Dimension.{Dimension}
use Rattle.describing_set.specs.declared.set.DescSet.{DescSet}
use Rattle.hierarchy_split.specs.{Cut.{lifted, leasts, IsCutLevel, IsDimCut, concepts_of, overlap, IsGood, IsBetterCut, IsGoodCut}, Order.{least, IsOrder, IsBetween, IsPlace, shared_count}, declared.cut.Candidate.Candidate, declared.cut.Cut.Cut}
use Rattle.hierarchy_split.proofs.Orders.{places_length, places_below, IsOrder-unique, IsPlace-unique}

pub IfNone-from : {T : Type 0} {P : Type 0} (o : Option T) → P → IfNone o P
IfNone-from None p = p
IfNone-from (Some x) p = tt

pub length-leasts : (h : List Dimension) (sets : List DescSet) (dim level : ℕ) → length (leasts h sets dim level) ≡ length sets
length-leasts h sets dim level = length-map sets (λ set. least (lifted h dim level set))

-- each item once
pub cut_places : (h : List Dimension) (sets : List DescSet) (cut : Cut) → IsDimCut h sets cut → IsPermutation (range_with_len 0 (length sets)) cut.order.items
cut_places h sets cut c = subst (λ n. IsPermutation (range_with_len 0 n) cut.order.items) (length-leasts h sets cut.dim cut.level) c.order.places

pub cut_length : (h : List Dimension) (sets : List DescSet) (cut : Cut) → IsDimCut h sets cut → length cut.order.items ≡ length sets
cut_length h sets cut c = places_length (length sets) cut.order.items (cut_places h sets cut c)

pub cut_below : (h : List Dimension) (sets : List DescSet) (cut : Cut) → IsDimCut h sets cut → All (λ place. place < length sets) cut.order.items
cut_below h sets cut c = places_below (length sets) cut.order.items (cut_places h sets cut c)

-- A dimension has one cut at most.

pub IsCutLevel-unique : (h : List Dimension) (sets : List DescSet) (dim a b : ℕ) → IsCutLevel h sets dim a → IsCutLevel h sets dim b → a ≡ b
IsCutLevel-unique h sets dim a b p q = elim (cases_lt a b) [
  | inl less ↦ absurd (p.differ (q.first a less))
  | inr le ↦ elim (cases_lt b a) [ inl more ↦ absurd (q.differ (p.first b more)) | inr ge ↦ omega arith ]
]

pub record SameCut (a b : Cut) : Type 0 where
  pub dim : a.dim ≡ b.dim
  pub level : a.level ≡ b.level
  pub order : a.order.items ≡ b.order.items
  pub left : a.left ≡ b.left

pub IsDimCut-unique : (h : List Dimension) (sets : List DescSet) (a b : Cut) → IsDimCut h sets a → IsDimCut h sets b → a.dim ≡ b.dim → SameCut a b
IsDimCut-unique h sets a b p q same =
    let level = IsCutLevel-unique h sets b.dim a.level b.level (subst (λ dim. IsCutLevel h sets dim a.level) same p.level) q.level in
    let xs = leasts h sets b.dim b.level in
    let read : leasts h sets a.dim a.level ≡ xs = ap (λ dim. leasts h sets dim a.level) same ∙ ap (λ l. leasts h sets b.dim l) level in
    let order = IsOrder-unique xs a.order.items b.order.items (subst (λ l. IsOrder l a.order.items) read p.order) q.order in
    let place = subst (λ o. IsPlace xs o a.left) order (subst (λ l. IsPlace l a.order.items a.left) read p.place) in
    record { dim = same; level = level; order = order; left = IsPlace-unique xs b.order.items a.left b.left place q.place }

-- where the order has no place for a cut, the dimension has no cut
pub no_dim_cut : (h : List Dimension) (sets : List DescSet) (dim level : ℕ) (xs ys order places : List ℕ) → IsCutLevel h sets dim level → xs ≡ leasts h sets dim level → ys ≡ xs → places ≡ order → IsOrder xs order → ((k : ℕ) → ¬ IsBetween ys places k) → (cut : Cut) → cut.dim ≡ dim → ¬ IsDimCut h sets cut
no_dim_cut h sets dim level xs ys order places l read again items o none cut e d =
    let lift = subst (λ n. IsCutLevel h sets n cut.level) e d.level in
    let same = ap (λ n. leasts h sets n cut.level) e ∙ ap (λ n. leasts h sets dim n) (IsCutLevel-unique h sets dim cut.level level lift l) ∙ sym read in
    let place = subst (λ v. IsBetween v cut.order.items cut.left) same d.place.between in
    let one = IsOrder-unique xs cut.order.items order (subst (λ v. IsOrder v cut.order.items) same d.order) o in
    none cut.left (subst (λ v. IsBetween v places cut.left) (sym again) (subst (λ v. IsBetween xs v cut.left) (one ∙ sym items) place))

-- two cuts that are the same have the same overlap, and are both good or not
overlap-same : (h : List Dimension) (sets : List DescSet) (a b : Cut) → SameCut a b → overlap h sets a ≡ overlap h sets b
overlap-same h sets a b s =
    let F : ℕ → ℕ → List ℕ → ℕ → ℕ = λ dim level order left. overlap h sets (record { dim = dim; level = level; order = record { items = order }; left = left }) in
    ap (λ dim. F dim a.level a.order.items a.left) s.dim ∙ ap (λ level. F b.dim level a.order.items a.left) s.level
    ∙ ap (λ order. F b.dim b.level order a.left) s.order ∙ ap (λ left. F b.dim b.level b.order.items left) s.left

IsGood-same : (h : List Dimension) (sets : List DescSet) (a b : Cut) → SameCut a b → IsGood h sets a → IsGood h sets b
IsGood-same h sets a b s g = record {
  left = let e = s.left in omega (arith, g.left);
  right = let e = s.left in omega (arith, g.right);
  overlap = let e = overlap-same h sets a b s in omega (arith, g.overlap);
}

-- what the code counts, on the two parts of its order
pub overlap_read : (h : List Dimension) (sets : List DescSet) (cut : Cut) (dim k r : ℕ) (order : List ℕ) → cut.dim ≡ dim → k ≡ cut.left → order ≡ cut.order.items → r ≡ shared_count (concepts_of h sets dim cut.level (take k order)) (concepts_of h sets dim cut.level (take (length order - k) (drop k order))) → r ≡ overlap h sets cut
overlap_read h sets cut dim k r order d e items is =
    let F : ℕ → List ℕ → List ℕ → ℕ = λ dim left right. shared_count (concepts_of h sets dim cut.level left) (concepts_of h sets dim cut.level right) in
    is ∙ ap (λ right. F dim (take k order) right) (take_rest order k) ∙ ap (λ n. F n (take k order) (drop k order)) (sym d)
    ∙ ap (λ n. F cut.dim (take n order) (drop n order)) e ∙ ap (λ l. F cut.dim (take cut.left l) (drop cut.left l)) items

-- where the cut of a dimension is not good, the dimension has no good cut
pub no_good_cut : (h : List Dimension) (sets : List DescSet) (cut : Cut) (dim : ℕ) → IsDimCut h sets cut → cut.dim ≡ dim → ¬ IsGood h sets cut → (other : Cut) → other.dim ≡ dim → IsDimCut h sets other → ¬ IsGood h sets other
no_good_cut h sets cut dim c e bad other d o good = bad (IsGood-same h sets other cut (IsDimCut-unique h sets other cut o c (d ∙ sym e)) good)

-- The best of the dimensions.

-- what is known of a good cut of a dimension, and of its overlap
pub record IsCandidate (h : List Dimension) (sets : List DescSet) (found : Candidate) : Type 0 where
  pub dim_cut : IsDimCut h sets found.cut
  pub good : IsGood h sets found.cut
  pub overlap : found.overlap ≡ overlap h sets found.cut

-- it comes first of the good cuts of the dimensions below a number
pub record IsBestOf (h : List Dimension) (sets : List DescSet) (n : ℕ) (found : Candidate) : Type 0 where
  pub candidate : IsCandidate h sets found
  pub below : found.cut.dim < n
  pub first : (other : Cut) → other.dim < n → IsDimCut h sets other → IsGood h sets other → IsBetterCut h sets found.cut other

abbrev pub HasNoGood : List Dimension → List DescSet → ℕ → Type 0
HasNoGood h sets n = (other : Cut) → other.dim < n → IsDimCut h sets other → ¬ IsGood h sets other

-- with none yet, or the best one
abbrev pub Choosing : List Dimension → List DescSet → ℕ → Option Candidate → Type 0
Choosing h sets n best = MatchOption best (HasNoGood h sets n) (IsBestOf h sets n)

pub Choosing-skips : (h : List Dimension) (sets : List DescSet) (n : ℕ) (best : Option Candidate) → Choosing h sets n best → ((other : Cut) → other.dim ≡ n → IsDimCut h sets other → ¬ IsGood h sets other) → Choosing h sets (n + 1) best
Choosing-skips h sets n None none here = λ other lt o g. elim (cases_lt other.dim n) [
  | inl less ↦ none other less o g
  | inr high ↦ here other (omega arith) o g
]
Choosing-skips h sets n (Some best) i here = record {
  candidate = i.candidate;
  below = let b = i.below in omega (arith, b);
  first = λ other lt o g. elim (cases_lt other.dim n) [
    | inl less ↦ i.first other less o g
    | inr high ↦ absurd (here other (omega arith) o g)
  ];
}

-- the other cut of the same dimension comes at the same place
same_first : (h : List Dimension) (sets : List DescSet) (cut a b : Cut) → SameCut a b → IsBetterCut h sets cut a → IsBetterCut h sets cut b
same_first h sets cut a b s f =
    let e = overlap-same h sets a b s in
    let l = s.level in
    let d = s.dim in
    elim f [
      | inl less ↦ inl (omega (arith, less, e))
      | inr same ↦ inr (same.0 ∙ e, elim same.1 [ inl lower ↦ inl (omega (arith, lower, l)) | inr last ↦ inr (last.0 ∙ l, omega (arith, last.1, d)) ])
    ]

-- the tests of the code
abbrev pub IsBetter : Candidate → Candidate → Type 0
IsBetter found b = (found.overlap < b.overlap) ⊎ ((found.overlap ≡ b.overlap) × (found.cut.level < b.cut.level))

pub Choosing-keeps : (h : List Dimension) (sets : List DescSet) (n : ℕ) (best : Option Candidate) (found : Candidate) → Choosing h sets n best → IsCandidate h sets found → found.cut.dim ≡ n → IfNone best (IsTrue false) → IfSome best (λ b. IsTrue false ↔ IsBetter found b) → Choosing h sets (n + 1) best
Choosing-keeps h sets n None found none c d some better = absurd (false≢true some)
Choosing-keeps h sets n (Some best) found i c d some better = record {
  candidate = i.candidate;
  below = let b = i.below in omega (arith, b);
  first = λ other lt o g. elim (cases_lt other.dim n) [
    | inl less ↦ i.first other less o g
    | inr high ↦ same_first h sets best.cut found.cut other (IsDimCut-unique h sets found.cut other c.dim_cut o (omega (arith, d, lt, high))) before
  ];
}
  where
    before : IsBetterCut h sets best.cut found.cut
    before =
        let a = i.candidate.overlap in
        let b = c.overlap in
        let low = i.below in
        elim (cases_lt found.overlap best.overlap) [
          | inl less ↦ absurd (false≢true (better.1 (inl less)))
          | inr ge ↦ elim (cases_lt best.overlap found.overlap) [
            | inl more ↦ inl (omega (arith, more, a, b))
            | inr le ↦
                let same : found.overlap ≡ best.overlap = omega (arith, ge, le) in
                elim (cases_lt found.cut.level best.cut.level) [
                  | inl lower ↦ absurd (false≢true (better.1 (inr (same, lower))))
                  | inr not_lower ↦ elim (cases_lt best.cut.level found.cut.level) [
                    | inl higher ↦ inr (omega (arith, same, a, b), inl higher)
                    | inr not_higher ↦ inr (omega (arith, same, a, b), inr (omega (arith, not_lower, not_higher), omega (arith, low, d)))
                  ]
                ]
          ]
        ]

-- what comes before a cut of a lower dimension comes before what that one comes before
better_first : (h : List Dimension) (sets : List DescSet) (found best : Candidate) (other : Cut) → IsCandidate h sets found → IsCandidate h sets best → IsBetter found best → IsBetterCut h sets best.cut other → IsBetterCut h sets found.cut other
better_first h sets found best other c b better f =
    let p = c.overlap in
    let q = b.overlap in
    elim better [
      | inl less ↦ elim f [ inl x ↦ inl (omega (arith, p, q, less, x)) | inr x ↦ inl (omega (arith, p, q, less, x.0)) ]
      | inr same ↦ elim f [
        | inl x ↦ inl (omega (arith, p, q, same.0, x))
        | inr x ↦ inr (omega (arith, p, q, same.0, x.0), inl (elim x.1 [ inl y ↦ omega (arith, same.1, y) | inr y ↦ omega (arith, same.1, y.0) ]))
      ]
    ]

pub Choosing-takes : (h : List Dimension) (sets : List DescSet) (n : ℕ) (best : Option Candidate) (found : Candidate) → Choosing h sets n best → IsCandidate h sets found → found.cut.dim ≡ n → IfSome best (λ b. IsTrue true ↔ IsBetter found b) → IsBestOf h sets (n + 1) found
Choosing-takes h sets n best found i c d better = record {
  candidate = c;
  below = omega (arith, d);
  first = λ other lt o g. elim (cases_lt other.dim n) [
    | inl less ↦ below best i better other less o g
    | inr high ↦ same_first h sets found.cut found.cut other (IsDimCut-unique h sets found.cut other c.dim_cut o (omega (arith, d, lt, high))) (inr (refl, inr (refl, omega arith)))
  ];
}
  where
    below : (best : Option Candidate) → Choosing h sets n best → IfSome best (λ b. IsTrue true ↔ IsBetter found b) → (other : Cut) → other.dim < n → IsDimCut h sets other → IsGood h sets other → IsBetterCut h sets found.cut other
    below None none better other less o g = absurd (none other less o g)
    below (Some best) i better other less o g = better_first h sets found best other c i.candidate (better.0 refl) (i.first other less o g)

-- There is one good cut at most.

same_dim : (h : List Dimension) (sets : List DescSet) (a b : Cut) → IsBetterCut h sets a b → IsBetterCut h sets b a → a.dim ≡ b.dim
same_dim h sets a b p q = elim p [
  | inl x ↦ elim q [ inl y ↦ absurd (omega (arith, x, y)) | inr y ↦ absurd (omega (arith, x, y.0)) ]
  | inr x ↦ elim q [
    | inl y ↦ absurd (omega (arith, x.0, y))
    | inr y ↦ elim x.1 [
      | inl u ↦ elim y.1 [ inl v ↦ absurd (omega (arith, u, v)) | inr v ↦ absurd (omega (arith, u, v.0)) ]
      | inr u ↦ elim y.1 [ inl v ↦ absurd (omega (arith, u.0, v)) | inr v ↦ omega (arith, u.1, v.1) ]
    ]
  ]
]

pub IsGoodCut-unique : (h : List Dimension) (sets : List DescSet) (a b : Cut) → IsGoodCut h sets a → IsGoodCut h sets b → a ≡ b
IsGoodCut-unique h sets a b p q =
    let s = IsDimCut-unique h sets a b p.dim_cut q.dim_cut (same_dim h sets a b (p.first b q.dim_cut q.good) (q.first a p.dim_cut p.good)) in
    let F : ℕ → ℕ → List ℕ → ℕ → Cut = λ dim level order left. record { dim = dim; level = level; order = record { items = order }; left = left } in
    ap (λ dim. F dim a.level a.order.items a.left) s.dim ∙ ap (λ level. F b.dim level a.order.items a.left) s.level
    ∙ ap (λ order. F b.dim b.level order a.left) s.order ∙ ap (λ left. F b.dim b.level b.order.items left) s.left

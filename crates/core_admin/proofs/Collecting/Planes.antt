-- A set without a plane has fewer than two concepts in each dimension.
use Rattle.std.proofs.{Common.{◌≡◌, ℕ, zero, suc, ◌+◌, ◌/◌, ◌<◌, ◌≤◌, List, [], ◌∷◌, length, take, refl, sym, subst, ◌-◌, ◌⊎◌, inl, inr, arith, All}, lemmas.Bool.cases_lt, lemmas.List.Elements.{All-cons, All-nil}}
use Rattle.std.specs.List.{slice_index_or}
use Rattle.describing_set.specs.{DescSet.part_at, Part.part, Plane.{ComesFirst, IsPlaneOf, count_at}, declared.part.Part.Part, declared.plane.Plane.Plane, declared.set.DescSet.DescSet}

-- which of two dimensions comes first is told by three numbers
abbrev Leads : ℕ → ℕ → ℕ → ℕ → ℕ → ℕ → Type 0
Leads c l a d m b = (d < c) ⊎ ((c ≡ d) × ((l < m) ⊎ ((l ≡ m) × (a ≤ b))))

-- one of two does

by-number : (c l a d m b : ℕ) → c ≡ d → l ≡ m → Leads c l a d m b ⊎ Leads d m b c l a
by-number c l a d m b same level = elim (cases_lt a b) [ inl lt ↦ inl (inr (same, inr (level, omega arith))) | inr le ↦ inr (inr (sym same, inr (sym level, le))) ]

by-level : (c l a d m b : ℕ) → c ≡ d → Leads c l a d m b ⊎ Leads d m b c l a
by-level c l a d m b same = elim (cases_lt l m) [
  | inl lt ↦ inl (inr (same, inl lt))
  | inr le ↦ elim (cases_lt m l) [ inl lt ↦ inr (inr (sym same, inl lt)) | inr ge ↦ by-number c l a d m b same (omega arith) ]
]

either : (c l a d m b : ℕ) → Leads c l a d m b ⊎ Leads d m b c l a
either c l a d m b = elim (cases_lt d c) [
  | inl lt ↦ inl (inl lt)
  | inr le ↦ elim (cases_lt c d) [ inl lt ↦ inr (inl lt) | inr ge ↦ by-level c l a d m b (omega arith) ]
]

-- what leads one that leads a third leads the third

behind-level : (c l a d m b e n k : ℕ) → c ≡ d → d ≡ e → (l < m) ⊎ ((l ≡ m) × (a ≤ b)) → (m < n) ⊎ ((m ≡ n) × (b ≤ k)) → Leads c l a e n k
behind-level c l a d m b e n k cd de x y = inr (
  omega arith,
  elim x [
    | inl lt ↦ elim y [ inl lt2 ↦ inl (omega arith) | inr eq ↦ (let q = eq.0 in inl (omega arith)) ]
    | inr eq ↦ (let q = eq.0 in let r = eq.1 in elim y [ inl lt2 ↦ inl (omega arith) | inr eq2 ↦ (let t = eq2.0 in let u = eq2.1 in inr (omega arith, omega arith)) ])
  ],
)

through : (c l a d m b e n k : ℕ) → Leads c l a d m b → Leads d m b e n k → Leads c l a e n k
through c l a d m b e n k x y = elim x [
  | inl lt ↦ elim y [ inl lt2 ↦ inl (omega arith) | inr eq ↦ (let q = eq.0 in inl (omega arith)) ]
  | inr eq ↦ elim y [ inl lt2 ↦ (let q = eq.0 in inl (omega arith)) | inr eq2 ↦ behind-level c l a d m b e n k eq.0 eq2.0 eq.1 eq2.1 ]
]

module _ (set : DescSet) where
  abbrev level : ℕ → ℕ
  level k = (part_at set k).level

  -- the first of some dimensions
  first-of : (m : ℕ) → (k : ℕ) × (k < m + 1) × ((j : ℕ) → j < m + 1 → ComesFirst set k j)
  first-of zero = (0, omega arith, λ j lt. let z : j ≡ 0 = omega arith in subst (ComesFirst set 0) (sym z) (inr (refl, inr (refl, omega arith))))
  first-of (suc m) =
      let (k, within, first) = first-of m in
      elim (either (count_at set k) (level k) k (count_at set (suc m)) (level (suc m)) (suc m)) [
        | inl leads ↦ (k, omega arith, λ j lt. elim (cases_lt j (m + 1)) [ inl old ↦ first j old | inr new ↦ (let z : j ≡ suc m = omega arith in subst (ComesFirst set k) (sym z) leads) ])
        | inr leads ↦ (
          suc m,
          omega arith,
          λ j lt. elim (cases_lt j (m + 1)) [
            | inl old ↦ through (count_at set (suc m)) (level (suc m)) (suc m) (count_at set k) (level k) k (count_at set j) (level j) j leads (first j old)
            | inr new ↦ (let z : j ≡ suc m = omega arith in subst (ComesFirst set (suc m)) (sym z) (inr (refl, inr (refl, omega arith))))
          ],
        )
      ]

  leads-count : (a b : ℕ) → ComesFirst set a b → count_at set b ≤ count_at set a
  leads-count a b x = elim x [ inl lt ↦ omega arith | inr eq ↦ (let q = eq.0 in omega arith) ]

  no-two : ((plane : Plane) → ¬ IsPlaneOf set plane) → (dim : ℕ) → dim < length set.parts.items → count_at set dim < 2
  no-two none dim within = elim (cases_lt (count_at set dim) 2) [
    | inl few ↦ few
    | inr two ↦
        let (k, lt, first) = first-of (length set.parts.items - 1) in
        let most = leads-count k dim (first dim (omega arith)) in
        let plane : Plane = record { dim = k; level = level k; left = record { items = take (count_at set k / 2) (part_at set k).ids.items } } in
        absurd (none plane (record { dim = omega arith; first = λ j jl. first j (omega arith); two = omega arith; level = refl; left = refl }))
  ]

few-each : (ps : List Part) → ((k : ℕ) → k < length ps → length (slice_index_or ps k (part 0 [])).ids.items < 2) → All (λ (p : Part). length p.ids.items < 2) ps
few-each [] few = All-nil (λ (p : Part). length p.ids.items < 2)
few-each (p ∷ ps) few = All-cons (λ (q : Part). length q.ids.items < 2) p ps (few 0 (omega arith)) (few-each ps (λ k lt. few (suc k) (omega arith)))

pub few-everywhere : (set : DescSet) → ((plane : Plane) → ¬ IsPlaneOf set plane) → All (λ (p : Part). length p.ids.items < 2) set.parts.items
few-everywhere set none = few-each set.parts.items (no-two set none)

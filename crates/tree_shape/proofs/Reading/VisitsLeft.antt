-- A query's visits come to an end.
use Rattle.std.proofs.Common.{◌≡◌, ℕ, zero, suc, ◌+◌, ◌<◌, ◌≤◌, ◌⊎◌, inl, inr, Bool, true, false, cond, List, refl, ap, subst, arith}
use Rattle.list_words.specs.Counts.{same}
use Rattle.list_words.proofs.Truth.{eqb-self}
use Rattle.tree_shape.specs.{Shape.Shape, Visiting.{visits_left, FewLaw, VisitFallsLaw}, Walks.{Noted, pending}}

few-at : (b : Bool) (k m n : ℕ) → (b ≡ true → k ≤ 1) → m ≤ n → cond b k 0 + m ≤ suc n
few-at true k m n h l = let one = h refl in omega arith
few-at false k m n h l = omega arith

pub few-law : FewLaw
few-law g ps zero h = omega arith
few-law g ps (suc n) h = few-at (g.inside n) (pending g ps n) (visits_left g ps n) n (h n) (few-law g ps n h)

-- each block is reached no more often, and the visited one less often
Fewer : Shape → List Noted → List Noted → ℕ → Type 0
Fewer g before now c = (y : ℕ) → g.inside y ≡ true → pending g now y + same y c ≤ pending g before y

no-more-at : (b : Bool) (k l s m n : ℕ) → (b ≡ true → k + s ≤ l) → m ≤ n → cond b k 0 + m ≤ cond b l 0 + n
no-more-at true k l s m n h less = let one = h refl in omega arith
no-more-at false k l s m n h less = omega arith

no-more : (g : Shape) (before now : List Noted) (c n : ℕ) → Fewer g before now c → visits_left g now n ≤ visits_left g before n
unfolding Fewer
no-more g before now c zero h = omega arith
no-more g before now c (suc n) h = no-more-at (g.inside n) (pending g now n) (pending g before n) (same n c) _ _ (h n) (no-more g before now c n h)

at-or-below : (c n : ℕ) → c < suc n → (c ≡ n) ⊎ (c < n)
at-or-below c n h = grind arith

less-at : (b : Bool) (k l s m n : ℕ) → b ≡ true → (b ≡ true → k + s ≤ l) → s ≡ 1 → m ≤ n → cond b k 0 + m < cond b l 0 + n
less-at true k l s m n is h one less = let more = h refl in omega arith
less-at false k l s m n is h one less = cc

later-at : (b : Bool) (k l s m n : ℕ) → (b ≡ true → k + s ≤ l) → m < n → cond b k 0 + m < cond b l 0 + n
later-at true k l s m n h less = let more = h refl in omega arith
later-at false k l s m n h less = omega arith

fewer : (g : Shape) (before now : List Noted) (c n : ℕ) → Fewer g before now c → g.inside c ≡ true → c < n → visits_left g now n < visits_left g before n
unfolding Fewer
fewer g before now c zero h inside low = absurd (omega arith)
fewer g before now c (suc n) h inside low =
    elim (at-or-below c n low) [
      | inl is ↦ less-at (g.inside n) (pending g now n) (pending g before n) (same n c) _ _
          (subst (λ m. g.inside m ≡ true) is inside) (h n)
          (subst (λ m. same m c ≡ 1) is (ap (λ b. cond b 1 0) (eqb-self c))) (no-more g before now c n h)
      | inr below ↦ later-at (g.inside n) (pending g now n) (pending g before n) (same n c) _ _ (h n) (fewer g before now c n h inside below)
    ]

pub falls-law : VisitFallsLaw
unfolding Fewer
falls-law table cells g must f items item counted n v a inside low = fewer g v.unfinished.noted a.unfinished.noted item.cell n a.fewer inside low

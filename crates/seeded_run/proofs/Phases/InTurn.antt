-- Whose turn it is where the commands go one after the other: it is the actor's of the first one that isn't over; and when all are over
-- it is the turn of whoever uses a cell again.
use Rattle.std.proofs.{Common.{◌≡◌, ◌≢◌, ◌⊎◌, inl, inr, ℕ, true, Option, Some, None, refl, ap}, lemmas.Bool.eqb-true}
use Rattle.core_pages.specs.volap_cell.specs.declared.kind.Kind.{Kind}
use Rattle.core_pages.specs.volap_cell.specs.declared.kind.Kind.TheVariants as kind
use Rattle.seeded_run.specs.Can.{is_reuse, is_turn_of}

only-reuse : (k : Kind) → is_reuse (Some k) ≡ true → k ≡ kind.Reuse
only-reuse kind.Reuse e = refl
only-reuse k e = cc

pub own-or-over : (o : Option ℕ) (n : ℕ) (k : Option Kind) → is_turn_of o n k ≡ true → (o ≡ Some n) ⊎ ((o ≡ None) × (k ≡ Some kind.Reuse))
own-or-over (Some a) n k e = inl (ap Some (eqb-true a n e))
own-or-over None n (Some k) e = inr (refl, ap Some (only-reuse k e))
own-or-over None n None e = cc

-- then the first one that isn't over is nobody else's
pub nobody-else : (o : Option ℕ) (n : ℕ) (k : Option Kind) → is_turn_of o n k ≡ true → (a : ℕ) → a ≢ n → o ≢ Some a
nobody-else o n k e a differs is = elim (own-or-over o n k e) [ inl own ↦ differs (same o a is own) | inr over ↦ clash o a over.0 is ]
  where
    same : (o : Option ℕ) (a : ℕ) → o ≡ Some a → o ≡ Some n → a ≡ n
    same o a x y = cc

    clash : (o : Option ℕ) (a : ℕ) → o ≡ None → o ≡ Some a → ⊥
    clash o a x y = cc

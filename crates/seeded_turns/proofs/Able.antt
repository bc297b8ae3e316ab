-- Facts on the actors that can step.
use Rattle.std.proofs.Common.{◌≡◌, ◌≢◌, ◌∙◌, ℕ, zero, suc, ◌+◌, ◌<◌, ◌≤◌, ◌⊎◌, inl, inr, Bool, true, false, cond, List, [], ◌∷◌, ◌++◌, length, Option, None, Some, IfSome, get_or, refl, ap, sym, subst, arith, length-append}
use Rattle.std.specs.List.{slice_get}
use Rattle.seeded_turns.specs.{Drawn.able, Listed.{AreListed, listed_count}}

taken : (b : Bool) (xs ys : List ℕ) → b ≡ true → cond b xs ys ≡ xs
taken b xs ys e = rw e

few_step : (b : Bool) (xs : List ℕ) (n : ℕ) → length xs ≤ n → length (cond b (xs ++ n ∷ []) xs) ≤ suc n
few_step true xs n h = simp length-append (omega arith)
few_step false xs n h = omega arith

pub able_few : (can : ℕ → Bool) (n : ℕ) → length (able can n) ≤ n
able_few can zero = omega arith
able_few can (suc n) = few_step (can n) (able can n) n (able_few can n)

-- an item of a list is one of a longer one; the item behind a list stands at its length
get_front : (xs ys : List ℕ) (k i : ℕ) → slice_get xs k ≡ Some i → slice_get (xs ++ ys) k ≡ Some i
get_front [] ys k i e = cc
get_front (x ∷ xs) ys zero i e = e
get_front (x ∷ xs) ys (suc k) i e = get_front xs ys k i e

get_behind : (xs : List ℕ) (i : ℕ) → slice_get (xs ++ i ∷ []) (length xs) ≡ Some i
get_behind [] i = refl
get_behind (x ∷ xs) i = get_behind xs i

-- and what is found in the longer one is the item, or one of the list
front_or_behind : (xs : List ℕ) (x k i : ℕ) → slice_get (xs ++ x ∷ []) k ≡ Some i → (slice_get xs k ≡ Some i) ⊎ (i ≡ x)
front_or_behind [] x zero i e = inr cc
front_or_behind [] x (suc k) i e = cc
front_or_behind (y ∷ xs) x zero i e = inl e
front_or_behind (y ∷ xs) x (suc k) i e = front_or_behind xs x k i e

place_kept : (b : Bool) (xs : List ℕ) (n k i : ℕ) → slice_get xs k ≡ Some i → slice_get (cond b (xs ++ n ∷ []) xs) k ≡ Some i
place_kept true xs n k i e = get_front xs (n ∷ []) k i e
place_kept false xs n k i e = e

below_or_at : (i n : ℕ) → i < suc n → (i < n) ⊎ (i ≡ n)
below_or_at i n h = grind arith

-- an actor that can step stands behind the lower ones
pub able_place : (can : ℕ → Bool) (n i : ℕ) → i < n → can i ≡ true → slice_get (able can n) (length (able can i)) ≡ Some i
able_place can zero i h e = absurd (omega arith)
able_place can (suc n) i h e =
    elim (below_or_at i n h) [
      | inl below ↦ place_kept (can n) (able can n) n (length (able can i)) i (able_place can n i below e)
      | inr at ↦ subst (λ m. slice_get (able can (suc m)) (length (able can i)) ≡ Some i) at
          (rw (taken (can i) (able can i ++ i ∷ []) (able can i) e) (get_behind (able can i) i))
    ]

-- what is found so is so in other words
pub some_so : {A : Type 0} (o : Option A) (P Q : A → Type 0) → ((x : A) → P x → Q x) → IfSome o P → IfSome o Q
some_so None P Q other p = p
some_so (Some x) P Q other p = other x p

-- Lists of them.

-- who is found there is below the number, and can step
below_one_more : (can : ℕ → Bool) (n k i : ℕ) → ((slice_get (able can n) k ≡ Some i) → (i < n) × (can i ≡ true)) → (b : Bool) → can n ≡ b
    → slice_get (cond b (able can n ++ n ∷ []) (able can n)) k ≡ Some i → (i < suc n) × (can i ≡ true)
below_one_more can n k i before false is e = let found = before e in (omega (arith, found.0), found.1)
below_one_more can n k i before true is e = elim (front_or_behind (able can n) n k i e) [
  | inl front ↦ (let found = before front in (omega (arith, found.0), found.1))
  | inr same ↦ (omega (arith, same), subst (λ j. can j ≡ true) (sym same) is)
]

pub able_below : (can : ℕ → Bool) (n k i : ℕ) → slice_get (able can n) k ≡ Some i → (i < n) × (can i ≡ true)
able_below can zero k i e = cc
able_below can (suc n) k i e = below_one_more can n k i (able_below can n k i) (can n) refl e

-- the actors below a number that can step are counted, and the first of them listed
pub record AreSeen (can : ℕ → Bool) (n seen : ℕ) (listed : List ℕ) : Type 0 where
  pub count : seen ≡ length (able can n)
  pub are : AreListed (able can n) listed

listed_behind : (xs : List ℕ) (n : ℕ) (listed now : List ℕ) → AreListed xs listed → (length xs < listed_count → get_or now (length xs) 0 ≡ n)
    → ((k : ℕ) → k ≢ length xs → get_or now k 0 ≡ get_or listed k 0) → AreListed (xs ++ n ∷ []) now
listed_behind xs n listed now are own others = λ k low few.
    elim (below_or_at k (length xs) (omega (arith, low, length-append xs (n ∷ [])))) [
      | inl below ↦ get_front xs (n ∷ []) k (get_or now k 0) (are k below few ∙ ap Some (sym (others k (λ is. absurd (omega (arith, is, below))))))
      | inr at ↦ subst (λ j. slice_get (xs ++ n ∷ []) j ≡ Some (get_or now j 0)) (sym at) (get_behind xs n ∙ ap Some (sym (own (subst (λ j. j < listed_count) at few))))
    ]

module _ (can : ℕ → Bool) (n seen : ℕ) (listed : List ℕ) (are : AreSeen can n seen listed) where
  next : n + 1 ≡ suc n
  next = omega arith

  seen_behind : (now : List ℕ) → (seen < listed_count → get_or now seen 0 ≡ n) → ((k : ℕ) → k ≢ seen → get_or now k 0 ≡ get_or listed k 0)
      → (length (able can n ++ n ∷ []) ≡ seen + 1) × AreListed (able can n ++ n ∷ []) now
  seen_behind now own others = (
    omega (arith, are.count, length-append (able can n) (n ∷ [])),
    listed_behind (able can n) n listed now are.are
        (subst (λ k. k < listed_count → get_or now k 0 ≡ n) are.count own)
        (subst (λ j. (k : ℕ) → k ≢ j → get_or now k 0 ≡ get_or listed k 0) are.count others),
  )

  pub sees_one : (now : List ℕ) → can n ≡ true → (seen < listed_count → get_or now seen 0 ≡ n) → ((k : ℕ) → k ≢ seen → get_or now k 0 ≡ get_or listed k 0) → AreSeen can (n + 1) (seen + 1) now
  sees_one now is own others =
      let here = seen_behind now own others in
      let xs = sym (taken (can n) (able can n ++ n ∷ []) (able can n) is) in
      subst (λ m. AreSeen can m (seen + 1) now) (sym next) (record {
        count = sym (subst (λ (ys : List ℕ). length ys ≡ seen + 1) xs here.0);
        are = subst (λ ys. AreListed ys now) xs here.1;
      })

  pub sees_none : can n ≡ false → AreSeen can (n + 1) seen listed
  sees_none is =
      let xs : able can n ≡ able can (suc n) = sym (left (can n) is) in
      subst (λ m. AreSeen can m seen listed) (sym next) (record { count = subst (λ (ys : List ℕ). seen ≡ length ys) xs are.count; are = subst (λ ys. AreListed ys listed) xs are.are })
    where
      left : (b : Bool) → b ≡ false → cond b (able can n ++ n ∷ []) (able can n) ≡ able can n
      left b e = rw e

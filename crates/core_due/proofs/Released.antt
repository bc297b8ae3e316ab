-- The gate whose cells are used again next: it is gone and has no pins, and there is one where the list has such a gate.
use Rattle.std.proofs.{Common.{◌≡◌, ℕ, ◌≤◌, Bool, true, false, IsSome, List, [], ◌∷◌, Option, Some, None, inl, inr, refl, sym, ap, ◌∙◌, subst, ◌⊎◌, arith, eqb, eqb-true, if◌then◌else◌, ◌==◌, ◌&&◌}, lemmas.Bool.{and_parts, eqb-false}}
use Rattle.core_due.specs.{Look.cells_only, Reuses.{earlier, earlier_released, first_by, is_before, is_released, reuse_at, reuse_due, reuse_for}}
use Rattle.core_due.proofs.DueCases.{either}
use Rattle.list_words.proofs.{Elements.Some-same, Times.same_not, Truth.on_bool}
use Rattle.list_words.specs.Counts.{times}
use Rattle.core_steps.specs.shard_store.specs.{declared.gate.Phase.Phase, declared.gate.Phase.TheVariants.{Frozen, Gone, Open}}
use Rattle.std.specs.Prelude.{option_map}
use Rattle.core_steps.specs.volap_cell.specs.{Cells.{CellValue, phase_of, pins_in}, Reusing.is_gone, Values.ActorValue, World.World, declared.role.Role.Role, declared.role.Role.TheVariants.{Admin, Hand, Puller, Session}}

-- A gate that is gone and has no pins.

gone-is : (p : Option Phase) → is_gone p ≡ true → p ≡ Some Gone
gone-is (Some Gone) e = refl
gone-is (Some Open) e = absurd (cc)
gone-is (Some (Frozen upto)) e = absurd (cc)
gone-is None e = absurd (cc)

pub released-is : (c : CellValue) → is_released c ≡ true → (phase_of c ≡ Some Gone) × (pins_in c ≡ 0)
released-is c e = (let k = and_parts (is_gone (phase_of c)) (pins_in c == 0) e in (gone-is (phase_of c) k.0, eqb-true (pins_in c) 0 k.1))

pub is-released : (c : CellValue) → phase_of c ≡ Some Gone → pins_in c ≡ 0 → is_released c ≡ true
is-released c gone unpinned = (λ j. is_gone (gone j) && (unpinned j == 0))

-- The first of a list.

module _ (w : World) where
  -- it is the one that was known, or one that is released

  abbrev IsEither : Option ℕ → ℕ → Type 0
  IsEither best x = (best ≡ Some x) ⊎ (is_released (w.cells x) ≡ true)

  this-one : (y x : ℕ) → is_released (w.cells y) ≡ true → Some y ≡ Some x → is_released (w.cells x) ≡ true
  this-one y x is same = subst (λ (z : ℕ). is_released (w.cells z) ≡ true) (sym (Some-same y x same)) is

  first-of-two : (best : Option ℕ) (y x : ℕ) → is_released (w.cells y) ≡ true → earlier w best y ≡ Some x → IsEither best x
  first-of-two None y x is found = inr (this-one y x is found)
  first-of-two (Some z) y x is found = either (λ (o : Option ℕ). o ≡ Some x → IsEither (Some z) x) (is_before w y z) (Some y) (Some z) (λ before same. inr (this-one y x is same)) (λ behind same. inl same) found

  one-more : (best : Option ℕ) (y x : ℕ) → earlier_released w best y ≡ Some x → IsEither best x
  one-more best y x = either (λ (o : Option ℕ). o ≡ Some x → IsEither best x) (is_released (w.cells y)) (earlier w best y) best (first-of-two best y x) (λ stands same. inl same)

  first-released : (best : Option ℕ) (gates : List ℕ) (x : ℕ) → first_by w best gates ≡ Some x → IsEither best x
  first-released best [] x found = inl found
  first-released best (y ∷ gates) x found = elim (first-released (earlier_released w best y) gates x found) [
    | inl same ↦ one-more best y x same
    | inr is ↦ inr is
  ]

  pub found-released : (gates : List ℕ) (x : ℕ) → first_by w None gates ≡ Some x → is_released (w.cells x) ≡ true
  found-released gates x found = elim (first-released None gates x found) [
    | inl same ↦ (let never : ◌≡◌ {A = Option ℕ} None (Some x) = same in absurd (cc))
    | inr is ↦ is
  ]

  -- where one is known there is one
  some-first : (y : ℕ) (gates : List ℕ) → IsSome (first_by w (Some y) gates)
  some-first y [] = refl
  some-first y (x ∷ gates) =
      either (λ (o : Option ℕ). IsSome (first_by w o gates)) (is_released (w.cells x)) (earlier w (Some y) x) (Some y)
      (λ is. either (λ (o : Option ℕ). IsSome (first_by w o gates)) (is_before w x y) (Some x) (Some y) (λ before. some-first x gates) (λ behind. some-first y gates))
      (λ stands. some-first y gates)

  -- and where there is none, none of the list is released
  pub none-released : (gates : List ℕ) → first_by w None gates ≡ None → (x : ℕ) → 1 ≤ times x gates → is_released (w.cells x) ≡ false
  none-released [] none x some = absurd (omega (arith, some))
  none-released (y ∷ gates) none x some = on_bool (is_released (w.cells y))
      (λ q.
      let all : first_by w None (y ∷ gates) ≡ first_by w (Some y) gates = ap (λ (b : Bool). first_by w (if b then Some y else None) gates) q in
      let never : false ≡ true = subst IsSome (sym all ∙ none) (some-first y gates) in
      absurd (cc))
      (λ q.
      let all : first_by w None (y ∷ gates) ≡ first_by w None gates = ap (λ (b : Bool). first_by w (if b then Some y else None) gates) q in
      on_bool (eqb x y)
      (λ e. ap (λ (z : ℕ). is_released (w.cells z)) (eqb-true x y e) ∙ q)
      (λ e. let off = same_not x y (eqb-false x y e) in none-released gates (sym all ∙ none) x (omega (arith, some, off))))

  -- Of a state no more is read than its cells.

  one-told : (best : Option ℕ) (x : ℕ) → earlier_released w best x ≡ earlier_released (cells_only w.cells) best x
  one-told None x = refl
  one-told (Some y) x = refl

  first-told : (best : Option ℕ) (gates : List ℕ) → first_by w best gates ≡ first_by (cells_only w.cells) best gates
  first-told best [] = refl
  first-told best (x ∷ gates) = first-told (earlier_released w best x) gates ∙ ap (λ (o : Option ℕ). first_by (cells_only w.cells) o gates) (one-told best x)

  pub reuse-told : (a : ActorValue) → reuse_due w a ≡ reuse_due (cells_only w.cells) a
  reuse-told a = by a.role
    where
      by : (r : Role) → reuse_for w a r ≡ reuse_for (cells_only w.cells) a r
      by Admin = ap (option_map (reuse_at w)) (first-told None a.gone_gates)
      by (Session server) = refl
      by (Hand worker) = refl
      by Puller = refl

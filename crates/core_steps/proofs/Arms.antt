-- A step's first cell, or its first two, are lent where they stand, while others are out.
use Rattle.std.proofs.Common.{◌≡◌, ◌≢◌, ◌∙◌, ℕ, ◌<◌, true, List, [], ◌∷◌, length, Option, Some, None, is_some, get_or, set, refl, sym, ap, subst}
use Rattle.core_steps.specs.{Places.{Fill, held, held_at, no_others, numbers, one_at, others_held, things}, Steps.{IsSound, MayMake}, declared.step.Others.Others}
use Rattle.core_steps.proofs.{Held.{IsHeld, can-lift, lent-is, stands-some}, Vectors.{each-other, one-back, two-back}}
use Rattle.dim_hierarchy.specs.Dimension.{Dimension}
use Rattle.list_words.specs.Counts.{Each}
use Rattle.core_shard.specs.volap_cell.specs.{Cells.{CellValue, cell_of}, Setting.Setting, State.{CanLift, Stand, given, taken}, Values.ActorValue, World.World, declared.actor.Actor.Actor, declared.cell.Cell.Cell, declared.state.State.State}
use Rattle.core_shard.specs.volap_cell.proofs.Cells.States.{length-taken, taken-off}

-- a cell that stands at a place is held too
held-too : (state : State) (n f : ℕ) (row : List (Option ℕ)) (o : Option Cell) (held : List (Option Cell)) (a : Actor) → get_or state.cells.items f None ≡ o → is_some o ≡ true → IsHeld state n row held a → IsHeld state n (Some f ∷ row) (o ∷ held) a
held-too state n f row None held a is some rest = absurd (cc)
held-too state n f row (Some c) held a is some rest = record { fill = λ k. true ∷ rest.fill k; stand = (is, rest.stand); actor = rest.actor }

module _ {h : List Dimension} {state : State} {n : ℕ} {row : List (Option ℕ)} {Asks : List (Option CellValue) → ActorValue → Type 0} {Sees : Setting → World → ℕ → Type 0}
    (sound : IsSound h state) (may : MayMake h state n row Asks Sees) where
  abbrev cells : List (Option Cell)
  cells = state.cells.items

  -- and so is one that is lent while others are out
  held-there : (f : ℕ) (ys : List ℕ) (out : List (Option Cell)) (rest : List (Option ℕ)) (held : List (Option Cell)) (o : Option Cell) (a : Actor)
      → f < length cells → Each (λ y. f ≢ y) ys → out ≡ taken ys cells → get_or out f None ≡ o → IsHeld state n rest held a → IsHeld state n (Some f ∷ rest) (o ∷ held) a
  held-there f ys out rest held o a lt off e is =
      let there : get_or cells f None ≡ o = sym (taken-off ys cells f off) ∙ ap (λ (l : List (Option Cell)). get_or l f None) (sym e) ∙ is in
      held-too state n f rest o held a there (subst (λ (p : Option Cell). is_some p ≡ true) there (stands-some (get_or cells f None) (λ c. cell_of c ≡ sound.world.cells f) (sound.is.cell f lt)))

  -- One.
  module _ {f : ℕ} (named : one_at f ≡ row) where
    may-one : MayMake h state n (one_at f) Asks Sees
    may-one = subst (λ (r : List (Option ℕ)). MayMake h state n r Asks Sees) (sym named) may

    pub one-within : f < length cells
    one-within = may-one.within.0

    pub held-one : (o : Option Cell) (others : Others) (a : Actor) → o ≡ get_or cells f o → others ≡ no_others → get_or state.actors.items n None ≡ Some a → IsHeld state n row (held o None others) a
    held-one o others a is none actor = subst (λ (r : List (Option ℕ)). IsHeld state n r (held o None others) a) named
        (subst (λ (p : Others). IsHeld state n (one_at f) (held o None p) a) (sym none)
        (held-there f [] cells (None ∷ None ∷ None ∷ None ∷ None ∷ None ∷ []) (None ∷ others_held no_others) o a one-within tt refl (lent-is cells f o one-within is) (record { fill = refl; stand = tt; actor = actor })))

    pub back-one : (first second : Option Cell) (others : Others) → Fill row (held first second others) → set cells f first ≡ given (things row (held first second others)) (taken (numbers row) cells)
    back-one first second others = subst (λ (r : List (Option ℕ)). Fill r (held first second others) → set cells f first ≡ given (things r (held first second others)) (taken (numbers r) cells)) named
        (one-back f cells first second others)

  -- Two, and others.
  module _ {f g : ℕ} {rest : List (Option ℕ)} (named : (Some f ∷ Some g ∷ rest) ≡ row) where
    may-two : MayMake h state n (Some f ∷ Some g ∷ rest) Asks Sees
    may-two = subst (λ (r : List (Option ℕ)). MayMake h state n r Asks Sees) (sym named) may

    first-within : f < length cells
    first-within = may-two.within.0

    second-within : g < length cells
    second-within = may-two.within.1.0

    long-out : (out : List (Option Cell)) → out ≡ taken (numbers rest) cells → length cells ≡ length out
    long-out out e = sym (ap (λ (l : List (Option Cell)). length l) e ∙ length-taken (numbers rest) cells)

    pub first-lent : (out : List (Option Cell)) → out ≡ taken (numbers rest) cells → f < length out
    first-lent out e = subst (λ (k : ℕ). f < k) (long-out out e) first-within

    pub second-lent : (out : List (Option Cell)) → out ≡ taken (numbers rest) cells → g < length out
    second-lent out e = subst (λ (k : ℕ). g < k) (long-out out e) second-within

    pub others-within : (out now : List (Option Cell)) → out ≡ taken (numbers rest) cells → length now ≡ length out → Each (λ y. y < length now) (numbers rest)
    others-within out now e long = subst (λ (k : ℕ). Each (λ y. y < k) (numbers rest)) (long-out out e ∙ sym long) may-two.within.1.1

    pub two-apart : g ≢ f
    two-apart = may-two.apart.0.0

    -- the others can be moved out
    pub others-lift : CanLift cells (numbers rest)
    others-lift = (let all = can-lift sound may-two in record { there = all.there.1.1; apart = all.apart.1.1 })

    pub held-two : (out : List (Option Cell)) (others : Others) (a : Actor) → out ≡ taken (numbers rest) cells → Fill rest (others_held others) → Stand cells (things rest (others_held others))
        → get_or state.actors.items n None ≡ Some a → IsHeld state n row (held_at out f g others) a
    held-two out others a e fill stand actor = subst (λ (r : List (Option ℕ)). IsHeld state n r (held_at out f g others) a) named
        (held-there f (numbers rest) out (Some g ∷ rest) (get_or out g None ∷ others_held others) (get_or out f None) a first-within (each-other f (numbers rest) may-two.apart.0.1) e refl
        (held-there g (numbers rest) out rest (others_held others) (get_or out g None) a second-within (each-other g (numbers rest) may-two.apart.1.0) e refl (record { fill = fill; stand = stand; actor = actor })))

    pub back-two : (out : List (Option Cell)) (first second : Option Cell) (others : Others) → out ≡ taken (numbers rest) cells → Fill row (held first second others)
        → given (things rest (others_held others)) (set (set out f first) g second) ≡ given (things row (held first second others)) (taken (numbers row) cells)
    back-two out first second others e fill =
        ap (λ (l : List (Option Cell)). given (things rest (others_held others)) (set (set l f first) g second)) e
        ∙ subst (λ (r : List (Option ℕ)). Fill r (held first second others) → given (things rest (others_held others)) (set (set (taken (numbers rest) cells) f first) g second) ≡ given (things r (held first second others)) (taken (numbers r) cells)) named
        (two-back f g rest cells first second (others_held others) may-two.apart) fill

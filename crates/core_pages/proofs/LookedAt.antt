-- What vectors of cells and actors are, one cell at a time: whatever they are a state of, what is seen of them is of that state, and the other way round.
use Rattle.std.proofs.{Common.{ℕ, ◌≡◌, ◌≢◌, ◌<◌, ◌≤◌, true, false, List, length, Option, Some, None, get_or, inl, inr, refl, sym, ap, ◌∙◌, subst}, lemmas.Bool.{cases_lt, lt-ltb, le-ltb}, lemmas.List.get_or_past}
use Rattle.std.specs.Prelude.{IsSome, is_some, option_map}
use Rattle.dim_hierarchy.specs.Dimension.{Dimension}
use Rattle.core_image.specs.volap_cell.specs.{Cells.{CellValue, FreeCell, cell_of}, State.{Has, HasInv, IsWorldOf}, Values.actor_of, World.World, declared.actor.Actor.Actor, declared.cell.Cell.Cell}
use Rattle.core_pages.specs.Looks.{HasCells, IsActorOf, IsSeenOf, IsValid, cells_in, or_free, state_of}
use Rattle.core_image.specs.volap_cell.proofs.Cells.States.{is-some, stands}

-- where anything is seen but a free cell, a cell stands
pub there-unless : (o : Option CellValue) → or_free o ≢ FreeCell → IsSome o
there-unless None other = absurd (other refl)
there-unless (Some c) other = refl

-- and so where something is seen that a free cell doesn't have
pub there-if : {A : Type 0} (f : CellValue → Option A) (o : Option CellValue) → f FreeCell ≡ None → IsSome (f (or_free o)) → IsSome o
there-if f None none some = (let never : false ≡ true = sym (ap is_some none) ∙ some in absurd (cc))
there-if f (Some c) none some = refl

has-mapped : {A B : Type 0} (f : A → B) (o : Option A) (b : B) → Has o (λ x. f x ≡ b) → option_map f o ≡ Some b
has-mapped f None b has = absurd has
has-mapped f (Some x) b has = ap Some has

module _ (cells : List (Option Cell)) (actors : List (Option Actor)) where
  past-cell : (y : ℕ) → length cells ≤ y → option_map cell_of (get_or cells y None) ≡ None
  past-cell y ge = ap (option_map cell_of) (get_or_past cells y None ge)

  past-actor : (a : ℕ) → length actors ≤ a → option_map actor_of (get_or actors a None) ≡ None
  past-actor a ge = ap (option_map actor_of) (get_or_past actors a None ge)

  module _ (w : World) (is : IsWorldOf cells actors w) where
    here : (y : ℕ) → y < length cells → option_map cell_of (get_or cells y None) ≡ Some (w.cells y)
    here y lt = has-mapped cell_of (get_or cells y None) (w.cells y) (is.cell y lt)

    cell-seen : (y : ℕ) → cells_in (state_of cells actors) y ≡ w.cells y
    cell-seen y = elim (cases_lt y (length cells)) [
      | inl lt ↦ ap or_free (here y lt)
      | inr ge ↦ ap or_free (past-cell y ge) ∙ sym (is.no_cell y ge)
    ]

    actor-seen : (a : ℕ) → IsActorOf (option_map actor_of (get_or actors a None)) a (w.actors a)
    actor-seen a = elim (cases_lt a (length actors)) [
      | inl lt ↦ subst (λ o. IsActorOf o a (w.actors a)) (sym (has-mapped actor_of (get_or actors a None) (w.actors a) (is.actor a lt))) refl
      | inr ge ↦ subst (λ o. IsActorOf o a (w.actors a)) (sym (past-actor a ge)) (is.no_actor a ge)
    ]

    pub seen-of : IsSeenOf (state_of cells actors) w
    seen-of = record { cells = λ k y. cell-seen y k; actors = actor-seen }

    pub has-cells : HasCells (length cells) (state_of cells actors)
    has-cells y = elim (cases_lt y (length cells)) [
      | inl lt ↦ ap is_some (here y lt) ∙ sym (lt-ltb y (length cells) lt)
      | inr ge ↦ ap is_some (past-cell y ge) ∙ sym (le-ltb y (length cells) ge)
    ]

    -- nothing is out, so what is seen tells the vectors
    pub world-of : (now : World) → IsSeenOf (state_of cells actors) now → IsWorldOf cells actors now
    world-of now seen = record {
      cell = λ y lt. (let at = stands (get_or cells y None) (λ c. cell_of c ≡ w.cells y) (is.cell y lt) in
          is-some (get_or cells y None) (λ c. cell_of c ≡ now.cells y) at.0 at.1 (sym (ap (λ o. or_free (option_map cell_of o)) at.1) ∙ ap (λ (cs : ℕ → CellValue). cs y) seen.cells));
      no_cell = λ y ge. sym (ap (λ (cs : ℕ → CellValue). cs y) seen.cells) ∙ ap or_free (past-cell y ge);
      actor = λ a lt. (let at = stands (get_or actors a None) (λ x. actor_of x ≡ w.actors a) (is.actor a lt) in
          is-some (get_or actors a None) (λ x. actor_of x ≡ now.actors a) at.0 at.1 (subst (λ o. IsActorOf (option_map actor_of o) a (now.actors a)) at.1 (seen.actors a)));
      no_actor = λ a ge. subst (λ o. IsActorOf o a (now.actors a)) (past-actor a ge) (seen.actors a);
    }

  pub valid-of : (h : List Dimension) → HasInv h cells actors → IsValid h (state_of cells actors)
  valid-of h has = record { setting = has.setting; hierarchy = has.hierarchy; world = has.world; is = seen-of has.world has.is; inv = has.inv }

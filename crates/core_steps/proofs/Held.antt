-- What a step holds of a state: cells that stand at its places, and its actor. What the step asks of them is there.
use Rattle.std.proofs.{Common.{◌≡◌, ◌≢◌, ◌∙◌, ℕ, ◌<◌, true, List, [], ◌∷◌, length, Option, Some, None, is_some, get_or, refl, sym, subst}, lemmas.List.get_or_default}
use Rattle.std.specs.Prelude.{⊤}
use Rattle.core_steps.specs.{Places.{Fill, numbers, things, values, values_at}, Steps.{IsSound, MayMake}}
use Rattle.core_steps.proofs.Filling.{each-thing, values-there}
use Rattle.dim_hierarchy.specs.Dimension.{Dimension}
use Rattle.list_words.specs.Counts.{Each}
use Rattle.list_words.proofs.Each.{each-map}
use Rattle.core_shard.specs.volap_cell.specs.{Cells.{CellValue, cell_of}, Setting.Setting, State.{CanLift, Has, IsUnkept, MayHold, Stand, still}, Steps.IsHere, Values.{ActorValue, actor_of}, World.{MustKeep, World}, declared.actor.Actor.Actor, declared.cell.Cell.Cell, declared.state.State.State}
use Rattle.core_shard.specs.volap_cell.proofs.Cells.States.{is-here, same-actor, stand-world}

pub record IsHeld (state : State) (n : ℕ) (row : List (Option ℕ)) (held : List (Option Cell)) (a : Actor) : Type 0 where
  pub fill : Fill row held
  pub stand : Stand state.cells.items (things row held)
  pub actor : get_or state.actors.items n None ≡ Some a

-- What stands at a place.

pub stands-some : {A : Type 0} (o : Option A) (P : A → Type 0) → Has o P → is_some o ≡ true
stands-some None P has = absurd has
stands-some (Some x) P has = refl

stands-any : {A : Type 0} (o : Option A) (P : A → Type 0) → Has o P → Has o (λ (x : A). ⊤)
stands-any None P has = absurd has
stands-any (Some x) P has = tt

-- one that must not keep a cell
stands-free : (o : Option Actor) (v : ActorValue) (y : ℕ) → Has o (λ x. actor_of x ≡ v) → (MustKeep v y → ⊥) → Has o (λ x. ¬ MustKeep (actor_of x) y)
stands-free None v y has free = absurd has
stands-free (Some x) v y has free = λ k. free (subst (λ (z : ActorValue). MustKeep z y) has k)

-- what is lent from a place is what stands there
pub lent-is : {A : Type 0} (xs : List (Option A)) (y : ℕ) (o : Option A) → y < length xs → o ≡ get_or xs y o → get_or xs y None ≡ o
lent-is xs y o lt is = get_or_default xs y None o lt ∙ sym is

module _ {h : List Dimension} {state : State} {n : ℕ} {row : List (Option ℕ)} {Asks : List (Option CellValue) → ActorValue → Type 0} {Sees : Setting → World → ℕ → Type 0}
    (sound : IsSound h state) (may : MayMake h state n row Asks Sees) where
  abbrev cells : List (Option Cell)
  cells = state.cells.items

  abbrev actors : List (Option Actor)
  actors = state.actors.items

  -- each of the cells can be moved out
  pub can-lift : CanLift cells (numbers row)
  can-lift = record {
    there = each-map (λ y. y < length cells) (λ y. Has (get_or cells y None) (λ (x : Cell). ⊤)) (numbers row) (λ y lt. stands-any (get_or cells y None) (λ c. cell_of c ≡ sound.world.cells y) (sound.is.cell y lt)) may.within;
    apart = may.apart;
  }

  -- the actor is there
  pub actor-there : (o : Option Actor) → o ≡ get_or actors n o → is_some o ≡ true
  actor-there o is = subst (λ (p : Option Actor). is_some p ≡ true) (lent-is actors n o may.actor is) (stands-some (get_or actors n None) (λ x. actor_of x ≡ sound.world.actors n) (sound.is.actor n may.actor))

  pub actor-is : (o : Option Actor) (a : Actor) → o ≡ get_or actors n o → o ≡ Some a → get_or actors n None ≡ Some a
  actor-is o a is some = lent-is actors n o may.actor is ∙ some

  unkept : (ys : List ℕ) → ((a : ℕ) → a ≢ n → Each (λ y. ¬ MustKeep (sound.world.actors a) y) ys) → Each (λ y. IsUnkept actors n y) ys
  unkept [] free = tt
  unkept (y ∷ ys) free = ((λ a ne lt. stands-free (get_or actors a None) (sound.world.actors a) y (sound.is.actor a lt) (free a ne).0), unkept ys (λ a ne. (free a ne).1))

  module _ {held : List (Option Cell)} {a : Actor} (is : IsHeld state n row held a) where
    pub may-hold : MayHold cells actors (things row held) n a
    may-hold = record { stand = is.stand; actor_is = is.actor; unkept = each-thing (λ y. IsUnkept actors n y) row held is.fill (unkept (numbers row) (may.ready sound.world sound.is).unkept) }

    pub here : IsHere h (still (things row held)) (actor_of a)
    here = is-here h cells actors (things row held) n a sound may-hold

    pub asked : Asks (values held) (actor_of a)
    asked = subst (λ (vs : List (Option CellValue)). Asks vs (actor_of a)) (values-there sound.world.cells row held is.fill (stand-world cells actors sound.world (things row held) sound.is is.stand))
        (subst (λ (b : ActorValue). Asks (values_at sound.world.cells row) b) (same-actor cells actors sound.world n a sound.is is.actor) (may.ready sound.world sound.is).asked)

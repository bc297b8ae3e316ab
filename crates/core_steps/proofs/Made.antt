-- A state in which the cells and the actor that a step held are put back is one step further, or as it was.
use Rattle.std.proofs.{Common.{◌≡◌, ◌≢◌, ◌∙◌, ℕ, ◌<◌, ◌≤◌, cond, eqb, List, [], length, Option, Some, Result, None, get_or, set, inl, inr, refl, sym, ap, subst}, lemmas.{Bool.{cases_lt, eqb-true}, List.{length-set, set-set}}}
use Rattle.std.specs.Prelude.{OnErr, OnOk}
use Rattle.core_steps.specs.{Places.{Fill, numbers, swaps, things, values, values_at}, Steps.{IsFurther, IsSame, IsSound, IsSpared, IsTold, MayMake, Went}}
use Rattle.core_steps.proofs.{Filling.{are-swaps, each-thing, values-there}, Held.{IsHeld, may-hold}, Vectors.{given-off, put-back, stand-given}}
use Rattle.dim_hierarchy.specs.Dimension.{Dimension}
use Rattle.list_words.specs.Counts.{Each}
use Rattle.list_words.proofs.Truth.{on_bool}
use Rattle.core_shard.specs.volap_cell.specs.{Cells.{CellValue, cell_of}, Setting.Setting, State.{IsWorldOf, Stand, changes_of, given, taken}, Values.{ActorValue, actor_of}, World.{World, after}, declared.actor.Actor.Actor, declared.cell.Cell.Cell, declared.kind.Kind.Kind, declared.state.State.State}
use Rattle.core_shard.specs.volap_cell.proofs.{Cells.{Lifting.drives-as, States.{length-given, length-taken, of-it, same-actor, stand-world, stands, taken-off, world-after}}, Outcomes.{on-err, on-ok}}

-- an actor that is as it was leaves the state as it was
same-but : (w : World) (n : ℕ) (v : ActorValue) → w.actors n ≡ v → (a : ℕ) → cond (eqb a n) v (w.actors a) ≡ w.actors a
same-but w n v e a = on_bool (eqb a n)
    (λ q. rw q (sym e ∙ ap w.actors (sym (eqb-true _ _ q))))
    (λ q. rw q refl)

same-state : (cells : List (Option Cell)) (actors : List (Option Actor)) (w : World) (n : ℕ) (b : Actor) → n < length actors → w.actors n ≡ actor_of b → IsWorldOf cells actors w → IsWorldOf cells (set actors n (Some b)) w
same-state cells actors w n b lt equal is =
    let same : after w [] n (actor_of b) ≡ w = λ k. record { cells = w.cells; actors = λ a. same-but w n (actor_of b) equal a k } in
    subst (λ (v : World). IsWorldOf cells (set actors n (Some b)) v) same
    (subst (λ (zs : List (Option Actor)). IsWorldOf cells zs (after w [] n (actor_of b))) (set-set actors n None (Some b)) (world-after cells actors w [] n b is tt lt))

-- a step that was made, or found no memory
pub record IsMade {T E : Type 0} (r : Result T E) (h : List Dimension) (kind : Kind) (n : ℕ) (row : List (Option ℕ)) (Tells : ActorValue → (was now : List (Option CellValue)) → Type 0) (was now : State) : Type 0 where
  pub further : OnOk r (IsFurther h kind n was now)
  pub told : OnOk r (IsTold was now n row Tells)
  pub spared : OnOk r (IsSpared was now row)
  pub same : OnErr r (IsSame was now)

module _ {h : List Dimension} {state : State} {n : ℕ} {row : List (Option ℕ)} {Asks : List (Option CellValue) → ActorValue → Type 0} {Sees : Setting → World → ℕ → Type 0}
    {held : List (Option Cell)} {a : Actor} (sound : IsSound h state) (may : MayMake h state n row Asks Sees) (is : IsHeld state n row held a)
    (now_state : State) (now : List (Option Cell)) (b : Actor)
    (filled : Fill row now) (back : now_state.cells.items ≡ given (things row now) (taken (numbers row) state.cells.items)) (over : now_state.actors.items ≡ set state.actors.items n (Some b)) where
  abbrev cells : List (Option Cell)
  cells = state.cells.items

  abbrev actors : List (Option Actor)
  actors = state.actors.items

  long : length now_state.cells.items ≡ length cells
  long = ap (λ (l : List (Option Cell)). length l) back ∙ length-given (things row now) (taken (numbers row) cells) ∙ length-taken (numbers row) cells

  further : (kind : Kind) → Went h kind Sees row held now (actor_of a) (actor_of b) → IsFurther h kind n state now_state
  further kind went =
      let are = are-swaps row held now is.fill filled in
      drives-as h kind cells (taken (numbers row) cells) now_state.cells.items actors (set actors n None) now_state.actors.items (swaps row held now) (numbers row) (things row held) (things row now)
      (changes_of (swaps row held now)) n a b are.numbers_are are.before are.after refl refl refl back (over ∙ sym (set-set actors n None (Some b)))
      (may-hold sound may is) went.makes (λ s w same is_w inv. went.sight s w n (may.seen s w same is_w inv))

  -- what is put back stands at its places
  stand-now : Stand now_state.cells.items (things row now)
  stand-now = subst (λ (l : List (Option Cell)). Stand l (things row now)) (sym back)
      (stand-given row now filled (taken (numbers row) cells) may.apart (subst (λ (k : ℕ). Each (λ y. y < k) (numbers row)) (sym (length-taken (numbers row) cells)) may.within))

  told : (Tells : ActorValue → (was now : List (Option CellValue)) → Type 0) → Tells (actor_of a) (values held) (values now) → IsTold state now_state n row Tells
  told Tells tells w v is_w is_v =
      subst (λ (x : ActorValue). Tells x (values_at w.cells row) (values_at v.cells row)) (sym (same-actor cells actors w n a is_w is.actor))
      (subst (λ (vs : List (Option CellValue)). Tells (actor_of a) vs (values_at v.cells row)) (sym (values-there w.cells row held is.fill (stand-world cells actors w (things row held) is_w is.stand)))
      (subst (λ (vs : List (Option CellValue)). Tells (actor_of a) (values held) vs) (sym (values-there v.cells row now filled (stand-world now_state.cells.items now_state.actors.items v (things row now) is_v stand-now)))
      tells))

  -- what isn't held stands where it stood
  stays : (y : ℕ) → Each (λ z. y ≢ z) (numbers row) → get_or now_state.cells.items y None ≡ get_or cells y None
  stays y off = ap (λ (l : List (Option Cell)). get_or l y None) back ∙ given-off (things row now) (taken (numbers row) cells) y (each-thing (λ z. y ≢ z) row now filled off) ∙ taken-off (numbers row) cells y off

  spared : IsSpared state now_state row
  spared w v is_w is_v y off = elim (cases_lt y (length cells)) [
    | inl lt ↦ (
        let k = stands (get_or cells y None) (λ c. cell_of c ≡ w.cells y) (is_w.cell y lt) in
        sym (of-it (get_or now_state.cells.items y None) (λ c. cell_of c ≡ v.cells y) k.0 (is_v.cell y (subst (λ (m : ℕ). y < m) (sym long) lt)) (stays y off ∙ k.1)) ∙ k.2)
    | inr ge ↦ is_v.no_cell y (subst (λ (m : ℕ). m ≤ y) (sym long) ge) ∙ sym (is_w.no_cell y ge)
  ]

  unchanged : now ≡ held → actor_of b ≡ actor_of a → IsSame state now_state
  unchanged same equal =
      let as_was : now_state.cells.items ≡ cells = back ∙ ap (λ (l : List (Option Cell)). given (things row l) (taken (numbers row) cells)) same ∙ put-back row held is.fill cells may.apart is.stand in
      record {
        cells_kept = long;
        actors_kept = ap (λ (l : List (Option Actor)). length l) over ∙ length-set actors n (Some b);
        same = λ w is_w.
            subst (λ (l : List (Option Cell)). IsWorldOf l now_state.actors.items w) (sym as_was)
            (subst (λ (l : List (Option Actor)). IsWorldOf cells l w) (sym over)
            (same-state cells actors w n b may.actor (same-actor cells actors w n a is_w is.actor ∙ sym equal) is_w));
      }

  pub made : {T E : Type 0} (r : Result T E) (kind : Kind) (Tells : ActorValue → (was now : List (Option CellValue)) → Type 0)
      → OnOk r (Went h kind Sees row held now (actor_of a) (actor_of b)) → OnOk r (Tells (actor_of a) (values held) (values now)) → OnErr r ((now ≡ held) × (actor_of b ≡ actor_of a))
      → IsMade r h kind n row Tells state now_state
  made r kind Tells went tells refused = record {
    further = on-ok r went (further kind);
    told = on-ok r tells (told Tells);
    spared = on-ok r went (λ _. spared);
    same = on-err r refused (λ k. unchanged k.0 k.1);
  }

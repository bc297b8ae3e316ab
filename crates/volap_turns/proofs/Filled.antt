-- Places of which each is filled, and what stands in them, as a table begins with it and ends.
use Rattle.std.proofs.{Common.{◌≡◌, ◌∙◌, ℕ, suc, ◌<◌, List, [], ◌∷◌, length, Option, Some, None, get_or, inl, inr, refl, sym, ap, subst, arith}, lemmas.Bool.cases_lt}
use Rattle.std.specs.Prelude.{⊤, filter_map}
use mathlib.Core.Option.{some, some-injective}
use lib.ListN.{get_elem?}
use Rattle.dim_hierarchy.specs.Dimension.{Dimension}
use Rattle.row_ledger.specs.declared.event.Event.{Event}
use Rattle.core_counts.proofs.Counting.{resting-count-law}
use Rattle.core_told.proofs.Pulling.{resting-law}
use Rattle.turn_table.specs.{Law.IsClosed, Numbered.value_of, declared.view.View.View}
use Rattle.turn_table.proofs.Numbered.{below_length, there}
use Rattle.core_told.specs.volap_cell.specs.{Cells.{cell_of, ledger_in}, Setting.{Setting, ledger_cell}, Sights.IsIdle, State.{Has, IsWorldOf}, Values.{ActorValue, actor_of}, World.World, declared.actor.Actor.Actor, declared.cell.Cell.Cell}
use Rattle.core_told.specs.volap_cell.proofs.Cells.States.{is-some, of-it, stands}
use Rattle.volap_turns.specs.{Rule.{IsValid, Rests, all_there, history_of, went_at}, Wholes.{AreActorsOf, AreIdle, HasHistory, IsWhole, OpeningLaw}, Worlds.{at-place, is-world, long, past}}

module _ {A : Type 0} where
  abbrev pub items_of : List (Option A) → List A
  items_of places = filter_map (λ place. place) places

  filled : (places : List (Option A)) → ((k : ℕ) → k < length places → Has (get_or places k None) (λ x. ⊤)) → all_there (items_of places) ≡ places
  filled [] f = refl
  filled (None ∷ places) f = absurd (f 0 (omega arith))
  filled (Some x ∷ places) f = ap (λ (l : List (Option A)). Some x ∷ l) (filled places (λ k lt. f (suc k) (omega arith)))

  there-any : (o : Option A) (P : A → Type 0) → Has o P → Has o (λ (x : A). ⊤)
  there-any o P has = (let it = stands o P has in is-some o (λ (x : A). ⊤) it.0 it.1 tt)

  -- places that have these items, and as many, have nothing else
  same-places : (places : List (Option A)) (xs : List A) → length places ≡ length xs → ((k : ℕ) (x : A) → get_elem? xs k ≡ some x → get_elem? places k ≡ some (Some x)) → places ≡ all_there xs
  same-places [] [] e has = refl
  same-places [] (x ∷ xs) e has = absurd (omega (arith, e))
  same-places (p ∷ places) [] e has = absurd (omega (arith, e))
  same-places (p ∷ places) (x ∷ xs) e has =
      let first : p ≡ Some x = some-injective p (Some x) (has 0 x refl) in
      let rest : places ≡ all_there xs = same-places places xs (omega (arith, e)) (λ k y f. has (suc k) y f) in
      λ i. first i ∷ rest i

-- The beginning.

module _ {h : List Dimension} {cells : List (Option Cell)} {actors : List (Option Actor)} (whole : IsWhole h cells actors) where
  pub cells-filled : all_there (items_of cells) ≡ cells
  cells-filled = filled cells (λ y lt. there-any (get_or cells y None) (λ c. cell_of c ≡ whole.sound.world.cells y) (whole.sound.is.cell y lt))

  pub actors-filled : all_there (items_of actors) ≡ actors
  actors-filled = filled actors (λ a lt. there-any (get_or actors a None) (λ x. actor_of x ≡ whole.sound.world.actors a) (whole.sound.is.actor a lt))

  is-of : (xs : List Cell) (ys : List Actor) → all_there xs ≡ cells → all_there ys ≡ actors → IsWorldOf (all_there xs) (all_there ys) whole.sound.world
  is-of xs ys c a = subst (λ (l : List (Option Cell)). IsWorldOf l (all_there ys) whole.sound.world) (sym c) (subst (λ (l : List (Option Actor)). IsWorldOf cells l whole.sound.world) (sym a) whole.sound.is)

  -- where everybody is idle nobody has a command, or is at a part

  at-rest : AreIdle cells actors → (a : ℕ) → (whole.sound.world.actors a).command ≡ None
  at-rest idle a = elim (cases_lt a (length actors)) [
    | inl low ↦ (idle whole.sound.world whole.sound.is a low).command
    | inr high ↦ (whole.sound.is.no_actor a high).command
  ]

  at-no-part : AreIdle cells actors → (a : ℕ) → (whole.sound.world.actors a).errand ≡ None
  at-no-part idle a = elim (cases_lt a (length actors)) [
    | inl low ↦ (idle whole.sound.world whole.sound.is a low).errand
    | inr high ↦ (whole.sound.is.no_actor a high).errand
  ]

  pub valid-of : AreIdle cells actors → (xs : List Cell) (ys : List Actor) → all_there xs ≡ cells → all_there ys ≡ actors → IsValid xs ys
  valid-of idle xs ys c a = record {
    setting = whole.sound.setting;
    world = whole.sound.world;
    is = is-of xs ys c a;
    inv = whole.sound.inv;
    pulling = resting-law whole.sound.setting whole.sound.world (at-rest idle);
    counting = resting-count-law whole.sound.setting whole.sound.world (went_at ys) (at-rest idle) (at-no-part idle);
    wide = sym (long xs) ∙ ap (λ (l : List (Option Cell)). length l) c ∙ whole.wide;
    many = sym (long ys) ∙ ap (λ (l : List (Option Actor)). length l) a ∙ whole.many;
  }

  pub idle-of : (ys : List Actor) → all_there ys ≡ actors → AreIdle cells actors → (i : ℕ) (x : Actor) → get_elem? ys i ≡ some x → Rests x
  idle-of ys a idle i x e =
      let stood : get_or actors i None ≡ Some x = ap (λ (l : List (Option Actor)). get_or l i None) (sym a) ∙ at-place ys i x e in
      let lt : i < length actors = (let l = below_length ys i x e in let m = ap (λ (l : List (Option Actor)). length l) a in let n = long ys in omega arith) in
      subst (λ (v : ActorValue). IsIdle v) (sym (of-it (get_or actors i None) (λ z. actor_of z ≡ whole.sound.world.actors i) x (whole.sound.is.actor i lt) stood)) (idle whole.sound.world whole.sound.is i lt)

  pub items-cells : (xs : List Cell) → xs ≡ items_of cells → all_there xs ≡ cells
  items-cells xs e = ap (λ (l : List Cell). all_there l) e ∙ cells-filled

  pub items-actors : (ys : List Actor) → ys ≡ items_of actors → all_there ys ≡ actors
  items-actors ys e = ap (λ (l : List Actor). all_there l) e ∙ actors-filled

  -- there are as many
  pub as-many-cells : (xs : List Cell) → all_there xs ≡ cells → length xs ≡ length cells
  as-many-cells xs c = sym (long xs) ∙ ap (λ (l : List (Option Cell)). length l) c

  pub as-many-actors : (ys : List Actor) → all_there ys ≡ actors → length ys ≡ length actors
  as-many-actors ys a = sym (long ys) ∙ ap (λ (l : List (Option Actor)). length l) a

  -- the ledger's cell is there
  pub has-ledger : (xs : List Cell) → all_there xs ≡ cells → ledger_cell < length xs
  has-ledger xs c = (let l = sym (long xs) ∙ ap (λ (l : List (Option Cell)). length l) c ∙ whole.wide in omega arith)

-- The end.

module _ {places : List (Option Cell)} {v : View Cell Actor Event} {h : List Dimension} {actors : List (Option Actor)}
    (closed : IsClosed IsValid ledger_cell history_of places v) (are : AreActorsOf h v actors) where
  abbrev w : World
  w = closed.valid.world

  same-cells : places ≡ all_there closed.cells
  same-cells = same-places places closed.cells closed.cell_count closed.each_cell

  as-many : length actors ≡ length closed.actors
  as-many = are.count ∙ sym closed.actor_count

  is-actor : (a : ℕ) → a < length actors → Has (get_or actors a None) (λ x. actor_of x ≡ w.actors a)
  is-actor a lt =
      let n = are.count in
      let it = stands (get_or actors a None) (λ x. (last : Actor) × (value_of v.actors a ≡ some last) × (actor_of last ≡ actor_of x)) (are.each a (omega arith)) in
      let was : w.actors a ≡ actor_of it.2.0 = (is-world closed.cells closed.actors w closed.valid.is).actor a it.2.0 (closed.own a it.2.0 it.2.1) in
      is-some (get_or actors a None) (λ x. actor_of x ≡ w.actors a) it.0 it.1 (sym it.2.2 ∙ sym was)

  is-now : IsWorldOf places actors w
  is-now =
      let n = as-many in
      let is = subst (λ (l : List (Option Cell)). IsWorldOf l (all_there closed.actors) w) (sym same-cells) closed.valid.is in record {
        cell = is.cell;
        no_cell = is.no_cell;
        actor = is-actor;
        no_actor = λ a le. (is-world closed.cells closed.actors w closed.valid.is).no_actor a (past closed.actors a (omega arith));
      }

  about : closed.valid.setting.hierarchy ≡ h
  about =
      let some_one = are.some_one in let n = are.count in
      let it = stands (get_or actors 0 None) (λ x. (actor_of x).setting.hierarchy ≡ h) are.about in
      let me : actor_of it.0 ≡ w.actors 0 = of-it (get_or actors 0 None) (λ x. actor_of x ≡ w.actors 0) it.0 (is-actor 0 (omega arith)) it.1 in
      ap (λ (s : Setting). s.hierarchy) (sym (closed.valid.inv.holds.numbering.about 0)) ∙ ap (λ (x : ActorValue). x.setting.hierarchy) (sym me) ∙ it.2

  pub whole-again : IsWhole h places actors
  whole-again = record {
    sound = record { setting = closed.valid.setting; hierarchy = about; world = w; is = is-now; inv = closed.valid.inv };
    wide = closed.cell_count ∙ closed.valid.wide;
    many = as-many ∙ closed.valid.many;
  }

  pub history-again : HasHistory places actors v.seen
  history-again u is =
      let wide = closed.valid.wide in let count = closed.cell_count in
      let it = there closed.cells ledger_cell (omega arith) in
      let stood : get_or places ledger_cell None ≡ Some it.0 = ap (λ (l : List (Option Cell)). get_or l ledger_cell None) same-cells ∙ at-place closed.cells ledger_cell it.0 it.1 in
      ap (λ c. (ledger_in c).history) (sym (of-it (get_or places ledger_cell None) (λ c. cell_of c ≡ u.cells ledger_cell) it.0 (is.cell ledger_cell (omega arith)) stood)) ∙ closed.seen it.0 it.1

-- An opening.

-- whatever state the vectors are, they have these actors
same-actors : (cells : List (Option Cell)) (actors : List (Option Actor)) (w v : World) → IsWorldOf cells actors w → IsWorldOf cells actors v → (a : ℕ) → a < length actors → v.actors a ≡ w.actors a
same-actors cells actors w v is_w is_v a lt =
    let it = stands (get_or actors a None) (λ x. actor_of x ≡ w.actors a) (is_w.actor a lt) in
    sym (of-it (get_or actors a None) (λ x. actor_of x ≡ v.actors a) it.0 (is_v.actor a lt) it.1) ∙ it.2

pub opening-whole : OpeningLaw
opening-whole s cells actors opened = (
  record { sound = record { setting = s; hierarchy = refl; world = opened.world; is = opened.is; inv = opened.inv }; wide = opened.places; many = opened.count },
  λ w is a lt. subst (λ (v : ActorValue). IsIdle v) (sym (same-actors cells actors opened.world w opened.is is a lt))
      (let fresh = opened.opening.actors a in record { command = fresh.command; errand = fresh.errand; job = fresh.job; purse = fresh.purse; counted = fresh.counted }),
)

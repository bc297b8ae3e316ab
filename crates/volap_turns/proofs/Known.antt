-- What a seat knows: what each step asks for is there, and the step is an event.
use Rattle.std.proofs.Common.{◌≡◌, ◌≢◌, ◌∙◌, ℕ, true, false, List, [], ◌∷◌, ◌++◌, Option, Some, None, is_some, refl, sym, ap, subst, arith, eq-eqb}
use mathlib.Core.Option.{some}
use Rattle.core_counts.specs.Counting.{went_after}
use Rattle.core_steps.specs.{Places.{Fill, numbers, swaps, things}, Steps.Went}
use Rattle.core_steps.proofs.Filling.{are-swaps, by-places}
use Rattle.dim_hierarchy.specs.Dimension.{Dimension}
use Rattle.list_words.specs.Counts.{Each}
use Rattle.row_ledger.specs.declared.event.Event.{Event}
use Rattle.turn_table.specs.{Law.{sight}, Numbered.{numbers_of, value_of}, declared.view.View.View}
use Rattle.turn_table.proofs.Numbered.{find_same}
use Rattle.core_told.specs.volap_cell.specs.{Cells.cell_of, Setting.Setting, State.{Exchange, changes_of, exchange_if, still}, Steps.{HasSight, Inv, IsHere, IsKept, Makes}, Values.{ActorValue, actor_of}, World.{Agrees, Change, MustKeep, World, after, change}, declared.actor.Actor.Actor, declared.cell.Cell.Cell, declared.kind.Kind.Kind}
use Rattle.volap_turns.specs.{Law.{agree, others-free}, Rows.{AreAt, IsThere, cell_for, cells_for, maybe_cell}, Rule.{Goes, IsSeen}, Seats.{CanSee, HasActor}, Wholes.CanBe, Worlds.{IsWorld, is-world, past}}

-- Held cells at places.

module _ (held : List (ℕ × Cell)) where
  pub fill-for : (row : List (Option ℕ)) → Each (IsThere held) (numbers row) → Fill row (cells_for held row)
  fill-for [] there = refl
  fill-for (None ∷ row) there = (let rest = fill-for row there in λ k. false ∷ rest k)
  fill-for (Some y ∷ row) there =
      let here : is_some (cell_for held (Some y)) ≡ true = ap (λ o. is_some (maybe_cell o)) there.0.1 in
      let rest = fill-for row there.1 in λ k. here k ∷ rest k

  -- what is exchanged is what is held
  pub swaps-found : (row : List (Option ℕ)) (now : List (Option Cell)) → Each (IsThere held) (numbers row) → Each (λ x. value_of held x.number ≡ some x.before) (swaps row (cells_for held row) now)
  swaps-found [] now there = tt
  swaps-found (p ∷ row) [] there = tt
  swaps-found (None ∷ row) (n ∷ now) there = swaps-found row now there
  swaps-found (Some y ∷ row) (n ∷ now) there =
      subst (λ (o : Option Cell). Each (λ x. value_of held x.number ≡ some x.before) (exchange_if y o n ++ swaps row (cells_for held row) now)) (sym (ap maybe_cell there.0.1)) (found n there.0.0 there.0.1 (swaps-found row now there.1))
    where
      found : (n : Option Cell) (c : Cell) → value_of held y ≡ some c → Each (λ x. value_of held x.number ≡ some x.before) (swaps row (cells_for held row) now) → Each (λ x. value_of held x.number ≡ some x.before) (exchange_if y (Some c) n ++ swaps row (cells_for held row) now)
      found None c e rest = rest
      found (Some m) c e rest = (e, rest)

still-swaps : (row : List (Option ℕ)) (was : List (Option Cell)) → Fill row was → changes_of (swaps row was was) ≡ still (things row was)
still-swaps = by-places (λ row was. changes_of (swaps row was was) ≡ still (things row was)) refl (λ row was rest. rest) (λ y c row was fill rest k. change y (cell_of c) (cell_of c) ∷ rest k)

-- the same numbers are there after a step
pub there-same : (was new : List (ℕ × Cell)) (ys : List ℕ) → numbers_of was ≡ numbers_of new → Each (IsThere was) ys → Each (IsThere new) ys
there-same was new [] e there = tt
there-same was new (y ∷ ys) e there = (find_same was new y there.0.0 e there.0.1, there-same was new ys e there.1)

each-not : (x : Actor) → ((y : ℕ) → MustKeep (actor_of x) y → ⊥) → (xs : List Exchange) → Each (λ e. ¬ MustKeep (actor_of x) e.number) xs
each-not x f [] = tt
each-not x f (z ∷ xs) = ((λ k. f z.number k), each-not x f xs)

-- The state that a seat may be in.

module _ {h : List Dimension} {v : View Cell Actor Event} {n : ℕ} {a : Actor} (one : HasActor h v n a) (p : CanBe v) where
  abbrev pub w : World
  w = p.valid.world

  pub is : IsWorld p.cells p.actors w
  is = is-world p.cells p.actors w p.valid.is

  pub me : w.actors n ≡ actor_of a
  me = is.actor n one.last (p.agrees.own n one.last one.has) ∙ one.same

  pub setting-is : (actor_of a).setting ≡ p.valid.setting
  setting-is = ap (λ (z : ActorValue). z.setting) (sym me) ∙ p.valid.inv.holds.numbering.about n

  pub about : p.valid.setting.hierarchy ≡ h
  about = ap (λ (s : Setting). s.hierarchy) (sym setting-is) ∙ one.about

  pub alone : (xs : List Exchange) (j : ℕ) (x : Actor) → j ≢ n → value_of v.actors j ≡ some x → Each (λ e. ¬ MustKeep (actor_of x) e.number) xs
  alone xs j x ne has = each-not x (λ y k. one.others j x y ne has k) xs

  pub seen-of : IsSeen (sight v) w
  seen-of = record {
    mine = λ j x f. is.actor j x (p.agrees.own j x f);
    others = λ j le. (let count = p.actor_count in is.no_actor j (past p.actors j (omega arith)));
    known = λ all k c f. is.cell k c (p.known all k c f);
    beyond = λ k le. (let count = p.cell_count in is.no_cell k (past p.cells k (omega arith)));
  }

  agrees : (xs : List Exchange) → Each (λ x. value_of v.held x.number ≡ some x.before) xs → Agrees w (changes_of xs) n (actor_of a)
  agrees xs at = record {
    cells = agree v.held p.cells w is.cell p.agrees.held xs at;
    actor_is = me;
    free = others-free v.held v.actors p.actors w n xs is.actor is.no_actor p.agrees.own p.unkept (alone xs) at;
  }

  module _ {row : List (Option ℕ)} (at : AreAt row v.held) where
    abbrev was : List (Option Cell)
    was = cells_for v.held row

    -- what every step asks for
    pub here-of : IsHere h (still (things row was)) (actor_of a)
    here-of = record {
      about = one.about;
      world = w;
      number = n;
      inv = subst (λ (st : Setting). Inv st w) (sym setting-is) p.valid.inv;
      agrees = subst (λ (cs : List Change). Agrees w cs n (actor_of a)) (still-swaps row was (fill-for v.held row at.there)) (agrees (swaps row was was) (swaps-found v.held row was at.there));
    }

    module _ {kind : Kind} {Sees : Setting → World → ℕ → Type 0} (new : List (ℕ × Cell)) (b : Actor) (sees : CanSee h v n Sees) (went : Went h kind Sees row was (cells_for new row) (actor_of a) (actor_of b)) where
      -- the step is one event, where the actor has counted it
      pub event-of : b.went ≡ went_after (actor_of a) (actor_of b) a.went → numbers_of new ≡ numbers_of v.held → ((k : ℕ) → value_of new k ≡ value_of (things row (cells_for new row)) k) → Goes (sight v) new n one.last b
      event-of counted alike each =
          let filled = fill-for new row (there-same v.held new (numbers row) (sym alike) at.there) in
          let Made : ActorValue → Type 0 = λ z. (m : Makes h kind (changes_of (swaps row was (cells_for new row))) z (actor_of b)) × ((st : Setting) (u : World) → Sees st u n → HasSight st u n h kind (changes_of (swaps row was (cells_for new row))) z (actor_of b) m.does) in
          let made : Made (actor_of one.last) = subst Made (sym one.same) (went.makes, λ st u saw. went.sight st u n saw) in
          record {
            kind = kind;
            h = h;
            about = ap (λ (z : ActorValue). z.setting.hierarchy) one.same ∙ one.about;
            exchanges = swaps row was (cells_for new row);
            before = swaps-found v.held row (cells_for new row) at.there;
            now = λ k. each k ∙ ap (λ (l : List (ℕ × Cell)). value_of l k) (sym (are-swaps row was (cells_for new row) (fill-for v.held row at.there) filled).after);
            alone = alone (swaps row was (cells_for new row));
            makes = made.0;
            went = counted ∙ sym (λ k. went_after (one.same k) (actor_of b) (one.went k));
            sight = λ st u is_about inv seen. made.1 st u (sees st u is_about inv seen);
          }

      -- the actor's setting is the same after it
      pub setting-after : (actor_of b).setting ≡ (actor_of a).setting
      setting-after =
          let kept : IsKept p.valid.setting kind n w (after w (changes_of (swaps row was (cells_for new row))) n (actor_of b)) p.valid.inv.ghost_of =
          went.makes.keeps p.valid.setting w n p.valid.inv.ghost_of about p.valid.inv.holds (agrees (swaps row was (cells_for new row)) (swaps-found v.held row (cells_for new row) at.there)) (went.sight p.valid.setting w n (sees p.valid.setting w about p.valid.inv seen-of)) in
          let now : (after w (changes_of (swaps row was (cells_for new row))) n (actor_of b)).actors n ≡ actor_of b = rw (eq-eqb n n refl) refl in
          ap (λ (z : ActorValue). z.setting) (sym now) ∙ kept.holds.numbering.about n ∙ sym setting-is

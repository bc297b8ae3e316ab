-- What a seat knows of its actors: they are those of one state.
use Rattle.std.proofs.Common.{◌≡◌, ◌∙◌, ℕ, ◌<◌, ◌≤◌, length, List, [], ◌∷◌, Option, Some, None, option_and_then, slice_get, refl, sym, ap, subst, arith}
use mathlib.Core.Option.{some}
use lib.ListN.{get_elem?}
use Rattle.actor_run.specs.Passes.{IsAt}
use Rattle.row_ledger.specs.{Past.{event_at, session_in}, Right.IsRight, declared.event.Event.Event}
use Rattle.row_ledger.proofs.{Before.at-later, Growth.IsRight-kept}
use Rattle.script_run.specs.Places.{begins_of}
use Rattle.whole_steps.specs.seat_steps.proofs.Since.{nothing-new}
use Rattle.turn_table.specs.{Numbered.{Extends, numbers_of, value_of}, Seat.SeatValue, Views.HasAll, declared.view.View.View}
use Rattle.turn_table.proofs.Numbered.{below_length, there}
use Rattle.whole_steps.specs.volap_cell.specs.{Setting.{Setting, actor_count, ledger_cell, site_in}, Steps.history_in, Values.{ActorValue, actor_of}, declared.actor.Actor.Actor, declared.cell.Cell.Cell}
use Rattle.whole_steps.specs.volap_cell.specs.Cells.{CellValue, ledger_in}
use Rattle.whole_steps.specs.volap_turns.specs.{Wholes.CanBe, Worlds.{IsWorld, is-world}}

-- a state that agrees with a view
module _ {v : View Cell Actor Event} (p : CanBe v) where
  pub is : IsWorld p.cells p.actors p.valid.world
  is = is-world p.cells p.actors p.valid.world p.valid.is

  pub is-actor : (a : ℕ) (x : Actor) → value_of v.actors a ≡ some x → p.valid.world.actors a ≡ actor_of x
  is-actor a x has = is.actor a x (p.agrees.own a x has)

  -- each actor is about what the state is
  pub setting-of : (a : ℕ) (x : Actor) → value_of v.actors a ≡ some x → (actor_of x).setting ≡ p.valid.setting
  setting-of a x has = ap (λ (z : ActorValue). z.setting) (sym (is-actor a x has)) ∙ p.valid.inv.holds.numbering.about a

  pub below-count : (a : ℕ) (x : Actor) → value_of v.actors a ≡ some x → a < v.actor_count
  below-count a x has = (let l = below_length p.actors a x (p.agrees.own a x has) in omega (arith, p.actor_count))

  -- and has the role of its place
  pub role-of : (a : ℕ) (x : Actor) → value_of v.actors a ≡ some x → slice_get p.valid.setting.roles a ≡ Some (actor_of x).role
  role-of a x has =
      let l = below_length p.actors a x (p.agrees.own a x has) in
      p.valid.inv.holds.numbering.role a (omega (arith, p.valid.many)) ∙ ap (λ (z : ActorValue). Some z.role) (is-actor a x has)

  -- the history of a seat with all actors is right
  pub right-whole : HasAll v.actor_count v → IsRight (site_in p.valid.setting) v.seen
  right-whole all =
      let ledger = there p.cells ledger_cell (omega (arith, p.valid.wide)) in
      let seen : history_in p.valid.world ≡ v.seen = ap (λ (c : CellValue). (ledger_in c).history) (is.cell ledger_cell ledger.0 ledger.1) ∙ p.whole all ledger.0 ledger.1 in
      subst (λ (h : List Event). IsRight (site_in p.valid.setting) h) seen
      (IsRight-kept (site_in p.valid.setting) p.valid.inv.ghost_of.placed (history_in p.valid.world) p.valid.inv.holds.telling.right)

-- What has begun in the history that a seat has seen, by what each actor has noted in a state that agrees with its view.
module _ {v : View Cell Actor Event} (p : CanBe v) where
  grown : Extends (history_in p.valid.world) v.seen
  grown =
      let ledger = there p.cells ledger_cell (omega (arith, p.valid.wide)) in
      let seen = p.agrees.seen ledger.0 ledger.1 in
      (seen.0, ap (λ (c : CellValue). (ledger_in c).history) ((is p).cell ledger_cell ledger.0 ledger.1) ∙ seen.1)

  last-begun : (a q : ℕ) → option_and_then session_in (event_at v.seen q) ≡ Some a → q < (p.valid.world.actors a).seen
  last-begun a q own = by (event_at v.seen q) refl own
    where
      by : (o : Option Event) → event_at v.seen q ≡ o → option_and_then session_in o ≡ Some a → q < (p.valid.world.actors a).seen
      by None at own = absurd (cc)
      by (Some e) at own =
          let in_all : event_at (history_in p.valid.world) q ≡ Some e = ap (λ (h : List Event). event_at h q) grown.1 ∙ at-later grown.0 v.seen q e at in
          p.valid.inv.holds.telling.last a q (ap (option_and_then session_in) in_all ∙ own)

  -- an actor that has noted no more than a part of it began nothing past that
  pub none-since : (a : ℕ) (was : List Event) → Extends v.seen was → (p.valid.world.actors a).seen ≤ length was → begins_of v.seen a ≡ begins_of was a
  none-since a was longer few = nothing-new a (p.valid.world.actors a).seen v.seen was longer (last-begun a) few

-- What is at a place stays where the seat has as much.
pub still-at : (about : Setting) (s t : SeatValue Cell Actor Event) (a : ℕ) (o : Option Actor) → value_of t.view.actors a ≡ value_of s.view.actors a → length s.view.seen ≤ length t.view.seen → IsAt about s a o → IsAt about t a o
still-at about s t a None same more at = same ∙ at
still-at about s t a (Some x) same more at = record { last = at.last; has = same ∙ at.has; same = at.same; went = at.went; about_is = at.about_is; idle = at.idle; noted = (let n = at.noted in omega arith) }

-- no ranks, no cells
pub none-held : {A B : Type 0} (ps : List (ℕ × A)) (qs : List (ℕ × B)) → numbers_of ps ≡ numbers_of qs → qs ≡ [] → ps ≡ []
none-held [] qs e f = refl
none-held {A} {B} (p ∷ ps) qs e f = (let g : numbers_of (p ∷ ps) ≡ [] = e ∙ ap (λ (l : List (ℕ × B)). numbers_of l) f in absurd (cc))

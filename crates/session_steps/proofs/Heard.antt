-- What an actor at its seat knows of the history that it has seen, whether it holds the ledger or not: it is right, and the actor
-- began nothing in it past what it has noted.
use Rattle.std.proofs.Common.{◌≡◌, ◌∙◌, ℕ, ◌<◌, ◌≤◌, List, length, Option, Some, None, option_and_then, refl, sym, ap, subst, arith}
use mathlib.Core.Option.{some}
use Rattle.row_ledger.specs.{Kept.KeepsRight, Past.{event_at, session_in}, Right.IsRight, declared.event.Event.Event}
use Rattle.row_ledger.proofs.Before.{at-later}
use Rattle.script_run.specs.Places.{begins_of}
use Rattle.part_steps.specs.seat_steps.specs.{Floors.IsSeated, declared.floor.{Floor.Floor, Player.Player}}
use Rattle.session_steps.proofs.Grown.{right-earlier}
use Rattle.part_steps.specs.seat_steps.proofs.Since.{nothing-new}
use Rattle.turn_table.specs.Numbered.{Extends, value_of}
use Rattle.turn_table.proofs.Numbered.{there}
use Rattle.part_steps.specs.volap_cell.specs.{Cells.{CellValue, ledger_in}, Setting.{Setting, ledger_cell, site_in}, Steps.history_in, Values.{ActorValue, actor_of}, World.World, declared.cell.Cell.Cell}
use Rattle.part_steps.specs.volap_turns.specs.{Rule.history_of, Wholes.CanBe}
use Rattle.part_steps.specs.volap_turns.proofs.Known.{is, me, setting-is}

module _ (f : Floor) (p : Player) (seated : IsSeated f p) where
  abbrev pub can : CanBe p.seat.view
  can = seated.holds.possible

  abbrev pub w : World
  w = can.valid.world

  -- the state has the history that was seen, or a longer one
  grown : Extends (history_in w) p.seat.view.seen
  grown =
      let wide = can.valid.wide in
      let ledger = there can.cells ledger_cell (omega (arith, wide)) in
      let seen = can.agrees.seen ledger.0 ledger.1 in
      (seen.0, ap (λ (c : CellValue). (ledger_in c).history) ((is seated.holds.one can).cell ledger_cell ledger.0 ledger.1) ∙ seen.1)

  -- who holds the ledger has seen its history whole
  pub held-seen : (k : ℕ) → k ≡ ledger_cell → (c : Cell) → value_of p.seat.view.held k ≡ some c → p.seat.view.seen ≡ history_of c
  held-seen k is c e = can.agrees.fresh c (ap (λ (n : ℕ). value_of p.seat.view.held n) (sym is) ∙ e)

  -- the actor has its own number
  pub numbered : (actor_of p.actor).number ≡ p.number
  numbered = ap (λ (a : ActorValue). a.number) (sym (me seated.holds.one can)) ∙ can.valid.inv.holds.numbering.number p.number

  -- what was seen is right, once each server has pulled in it
  pub right-seen : (actor_of p.actor).setting.servers ≤ length p.seat.view.seen → IsRight (site_in (actor_of p.actor).setting) p.seat.view.seen
  right-seen opened =
      let same : (actor_of p.actor).setting ≡ can.valid.setting = setting-is seated.holds.one can in
      let keeps = subst (λ (h : List Event). KeepsRight (site_in can.valid.setting) can.valid.inv.ghost_of.placed h) grown.1 can.valid.inv.holds.telling.right in
      subst (λ (s : Setting). s.servers ≤ length p.seat.view.seen → IsRight (site_in s) p.seat.view.seen) (sym same)
      (right-earlier (site_in can.valid.setting) can.valid.inv.ghost_of.placed grown.0 p.seat.view.seen keeps) opened

  -- the actor began nothing past what it has noted
  pub last-seen : (q : ℕ) → option_and_then session_in (event_at p.seat.view.seen q) ≡ Some p.number → q < (actor_of p.actor).seen
  last-seen q own = by (event_at p.seat.view.seen q) refl own
    where
      by : (o : Option Event) → event_at p.seat.view.seen q ≡ o → option_and_then session_in o ≡ Some p.number → q < (actor_of p.actor).seen
      by None at own = absurd (cc)
      by (Some e) at own =
          let in_all : event_at (history_in w) q ≡ Some e = ap (λ (h : List Event). event_at h q) grown.1 ∙ at-later grown.0 p.seat.view.seen q e at in
          let below = can.valid.inv.holds.telling.last p.number q (ap (option_and_then session_in) in_all ∙ own) in
          subst (λ (a : ActorValue). q < a.seen) (me seated.holds.one can) below

  -- so where it has noted no more than an earlier part of that history, it began nothing since
  pub begun-nothing : (was : List Event) → Extends p.seat.view.seen was → (actor_of p.actor).seen ≤ length was → begins_of p.seat.view.seen p.number ≡ begins_of was p.number
  begun-nothing was longer few = nothing-new p.number (actor_of p.actor).seen p.seat.view.seen was longer last-seen few

-- When a session's query ends, no more parts of it were ended or sent on than there are shards, splits and moves for.
use Rattle.std.proofs.Common.{◌≡◌, ◌∙◌, ℕ, ◌+◌, ◌*◌, ◌≤◌, List, ◌∷◌, Option, inl, inr, refl, ap, subst, arith}
use Rattle.part_steps.specs.core_counts.specs.Ahead.{most_ahead, moves, splits}
use Rattle.row_ledger.specs.{Shards.ids_made, declared.event.Event.Event}
use Rattle.part_steps.specs.seat_steps.proofs.Around.{around, still-there, took-there, whole-seen}
use Rattle.part_steps.specs.seat_steps.specs.{Booked.HasBooked, declared.floor.{Floor.Floor, Player.Player}}
use Rattle.session_steps.specs.{Commands.{IsEndFor, IsEndOf}, declared.commands.End.End}
use Rattle.session_steps.specs.declared.commands.End.TheVariants as end
use Rattle.turn_table.proofs.Numbered.{some_or_none}
use Rattle.turn_table.specs.Numbered.{value_of}
use Rattle.part_steps.specs.volap_cell.specs.{Cells.CellValue, ImageKinds.doing, Setting.{Setting, ledger_cell}, Values.{ActorValue, actor_of}, World.World, declared.actor.Actor.Actor, declared.command.Command.Command, declared.kind.Kind.Kind, declared.role.Role.TheVariants.Session}
use Rattle.part_steps.specs.volap_cell.specs.declared.command.Work.TheVariants as work_is
use Rattle.part_steps.specs.volap_turns.specs.Rows.{IsThere}

no-more : (went ahead most : ℕ) → went + ahead ≤ most → went ≤ most
no-more went ahead most few = omega (arith, few)

none-more : (ids splits moves : ℕ) → ids + 2 * (0 + splits) + (0 + moves) ≡ ids + 2 * splits + moves
none-more ids splits moves = omega arith

-- the end of a query is neither a split nor a move
pub ends-alike : (e : End) (of : ℕ) (x : Event) (past : List Event) (workers : ℕ) → IsEndFor e work_is.Query → IsEndOf e of x → most_ahead workers (x ∷ past) ≡ most_ahead workers past
ends-alike end.Acked of x past workers suits is = (let never : work_is.Query ≡ work_is.Insert suits.0 suits.1 = suits.2 in absurd (cc))
ends-alike (end.Answered agg) of x past workers suits is = ap (λ (z : Event). most_ahead workers (z ∷ past)) is ∙ none-more (ids_made workers past) (splits past) (moves past)
ends-alike end.Failed of x past workers suits is = ap (λ (z : Event). most_ahead workers (z ∷ past)) is ∙ none-more (ids_made workers past) (splits past) (moves past)

module _ {f : Floor} {kind : Kind} {See : Setting → World → ℕ → Type 0} {Tells : ActorValue → (was now : List (Option CellValue)) → Type 0} {row : List (Option ℕ)} {was now : Player} (booked : HasBooked f kind See Tells row was now) where
  -- the ledger was held when the step was made
  ledger-there : IsThere (booked.mid).seat.view.held ledger_cell
  ledger-there = elim (some_or_none (value_of was.seat.view.held ledger_cell)) [
    | inl there ↦ still-there booked.took ledger_cell there
    | inr off ↦ took-there booked.took off
  ]

  -- so it is of the history without the newest event
  pub few-before : (server of : ℕ) → (actor_of was.actor).role ≡ Session server → (actor_of was.actor).command ≡ doing of work_is.Query → was.actor.went ≤ most_ahead f.with.workers (booked.mid).seat.view.seen
  few-before server of role command =
      let (s, w, is) = around f booked.mid booked.seated in
      let c : Command = record { of = of; work = work_is.Query } in
      let mine = is.actor ∙ ap (λ (x : Actor). actor_of x) booked.took.same.actor in
      let few = is.counted.few server c (ap (λ (a : ActorValue). a.role) mine ∙ role) (ap (λ (a : ActorValue). a.command) mine ∙ command) refl in
      let here = whole-seen f booked.mid s w is ledger-there in
      subst (λ (x : Actor × ℕ × List Event). x.0.went ≤ most_ahead x.1 x.2) (λ k. (booked.took.same.actor k, is.workers k, here k)) (no-more _ _ _ few)

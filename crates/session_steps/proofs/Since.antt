-- What a step of a session's command comes to, told since an earlier time at which the session was the same.
use Rattle.std.proofs.Common.{◌≡◌, ◌∙◌, ◌⊎◌, ℕ, ◌≤◌, Bool, true, false, List, length, Option, Some, None, is_some, inl, refl, sym, ap, subst}
use Rattle.part_steps.specs.core_counts.specs.{Ahead.most_ahead, Counting.{went_after, went_if}}
use Rattle.row_ledger.specs.{Past.{Query, query_at}, declared.event.Event.Event}
use Rattle.script_run.proofs.PlaceFacts.{begins_of-other}
use Rattle.script_run.specs.Places.{begins_in, begins_of}
use Rattle.part_steps.specs.seat_steps.proofs.Since.{extends-on, mid-same, none-since, number-since}
use Rattle.part_steps.specs.seat_steps.specs.{Booked.{HasBooked, IsUnchanged}, Floors.Stands, Takes.GaveAll, declared.floor.{Floor.Floor, Player.Player}}
use Rattle.part_steps.specs.Parts.{IsUnread}
use Rattle.session_steps.proofs.{CommandsMade.{EndsBy, IsFurther, further-same}, FewParts.{ends-alike, few-before}, Grown.query-on}
use Rattle.session_steps.specs.{Commands.{HasEnded, HasOpen, IsEndOf, IsStillOpen}, declared.commands.End.End}
use Rattle.session_steps.specs.declared.commands.End.TheVariants as end
use Rattle.turn_table.specs.Numbered.{Extends}
use Rattle.part_steps.specs.volap_cell.specs.{Cells.CellValue, ImageKinds.doing, Setting.Setting, Values.{ActorValue, actor_of}, World.World, declared.actor.Actor.Actor, declared.command.Work.Work, declared.kind.Kind.Kind}
use Rattle.part_steps.specs.volap_cell.specs.declared.command.Work.TheVariants as work_is

-- the command is open then
abbrev pub open-since : {was now : Player} → actor_of now.actor ≡ actor_of was.actor → HasOpen was → HasOpen now
open-since same has = record {
  server = has.server;
  role = ap (λ (a : ActorValue). a.role) same ∙ has.role;
  of = has.of;
  work = has.work;
  command = ap (λ (a : ActorValue). a.command) same ∙ has.command;
  kind = has.kind;
  no_part = ap (λ (a : ActorValue). a.errand) same ∙ has.no_part;
  no_job = ap (λ (a : ActorValue). a.job) same ∙ has.no_job;
}

-- an end begins nothing
ends-none : (e : End) (of : ℕ) (x : Event) (n : ℕ) → IsEndOf e of x → begins_in n x ≡ false
ends-none end.Acked of x n is = ap (begins_in n) is.1
ends-none (end.Answered agg) of x n is = ap (begins_in n) is
ends-none end.Failed of x n is = ap (begins_in n) is

-- Steps with the ledger.

module _ {f : Floor} {kind : Kind} {See : Setting → World → ℕ → Type 0} {Tells : ActorValue → (was now : List (Option CellValue)) → Type 0} {row : List (Option ℕ)} (p : Player) {was now : Player} (same : IsUnchanged p was) (booked : HasBooked f kind See Tells row was now) where
  -- the command has ended
  pub ended-since : (e : End) → HasOpen was → EndsBy e booked.mid now → HasEnded f e p now
  ended-since e has by =
      let its = by.ends has.of has.work (ap (λ (a : ActorValue). a.command) (ap actor_of booked.took.same.actor) ∙ has.command) in
      record {
        stands = booked.stands;
        number = number-since p same booked;
        older = (booked.mid).seat.view.seen;
        behind = (mid-same p same booked).seen;
        newest = by.newest;
        now_is = by.now_is;
        right = booked.right;
        only = λ few. ap (λ l. begins_of l p.number) by.now_is ∙ begins_of-other by.newest (booked.mid).seat.view.seen p.number (ends-none e has.of by.newest p.number its.1) ∙ none-since p same booked few;
        ends = λ of work command. (
            let it = by.ends of work (ap (λ (a : ActorValue). a.command) (mid-same p same booked).actor ∙ command) in
            (it.0, it.1, it.2 ∙ ap (λ (a : ActorValue). record a { command = None; seen = length now.seat.view.seen }) (mid-same p same booked).actor)
            );
        few = λ of command. (
            let asked = ap (λ (a : ActorValue). a.command) same.actor ∙ command in
            let it = by.ends of work_is.Query (ap (λ (a : ActorValue). a.command) (mid-same p same booked).actor ∙ command) in
            let alike = ap (λ (l : List Event). most_ahead f.with.workers l) by.now_is ∙ ends-alike e of by.newest (booked.mid).seat.view.seen f.with.workers it.0 it.1 in
            subst (λ (x : ℕ × ℕ). x.0 ≤ x.1) (λ k. (same.went k, sym alike k)) (few-before booked has.server of has.role asked)
            );
      }

-- Steps without the ledger.

-- who was at no part has ended none, and sent none on

none-if : (is_at : Bool) (went : ℕ) → went_if true false is_at went ≡ went
none-if true went = refl
none-if false went = refl

pub none-ended : (a b : ActorValue) (of : ℕ) (work : Work) → a.command ≡ doing of work → a.errand ≡ None → (went : ℕ) → went_after a b went ≡ went
none-ended a b of work command none went = (λ k. went_if (is_some (command k)) (is_some (none k)) (is_some b.errand) went) ∙ none-if (is_some b.errand) went

-- a part of an open query that the actor is at then has read no gate, and asks for what the query does
abbrev pub AsksAlike : List Event → ActorValue → ActorValue → Type 0
AsksAlike seen a b = (of : ℕ) (q : Query) → a.command ≡ doing of work_is.Query → query_at seen of ≡ Some q → (b.errand ≡ None) ⊎ ((part : IsUnread b) × (part.filter ≡ q.filter))

-- the command is still open
pub open-still : {f : Floor} {p was now : Player} → IsUnchanged p was → Stands f now → now.number ≡ was.number → IsFurther (actor_of was.actor) (actor_of now.actor) → Extends now.seat.view.seen was.seat.view.seen → now.actor.went ≡ was.actor.went
    → AsksAlike was.seat.view.seen (actor_of was.actor) (actor_of now.actor) → IsStillOpen f p now
open-still {f} {p} {was} {now} same stands number further seen went asks = record {
  stands = stands;
  number = number ∙ same.number;
  command = λ of work command. (
      let it = further of work (ap (λ (a : ActorValue). a.command) same.actor ∙ command) in
      (it.0, it.1, it.2 ∙ ap (λ (a : ActorValue). record a { command = doing of it.0; errand = (actor_of now.actor).errand }) same.actor)
      );
  seen = extends-on now.seat.view.seen was.seat.view.seen p.seat.view.seen seen same.seen;
  went = went ∙ same.went;
  asks = λ of q command asked. asks of q (ap (λ (a : ActorValue). a.command) same.actor ∙ command) (query-on was.seat.view.seen p.seat.view.seen same.seen of q asked);
}

-- the actor has given back what it held
pub unchanged-back : {p was now : Player} → IsUnchanged p was → GaveAll was now → IsUnchanged p now
unchanged-back {p} {was} {now} same gave = record {
  number = gave.number ∙ same.number;
  actor = ap (λ (x : Actor). actor_of x) gave.actor ∙ same.actor;
  went = ap (λ (x : Actor). x.went) gave.actor ∙ same.went;
  seen = subst (λ (l : List Event). Extends l p.seat.view.seen) (sym gave.seen) same.seen;
}

-- and has its command open as before
pub open-as : {f : Floor} {p now : Player} → HasOpen p → Stands f now → IsUnchanged p now → IsStillOpen f p now
open-as {f} {p} {now} has stands same = record {
  stands = stands;
  number = same.number;
  command = λ of work command. (work, further-same work, same.actor ∙ (λ k. record (actor_of p.actor) { command = command k; errand = sym (ap (λ (a : ActorValue). a.errand) same.actor) k }));
  seen = same.seen;
  went = same.went;
  asks = λ of q command asked. inl (ap (λ (a : ActorValue). a.errand) same.actor ∙ has.no_part);
}

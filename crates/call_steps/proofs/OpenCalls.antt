-- A called command goes on from its beginning to its end.
use Rattle.std.proofs.Common.{◌≡◌, ◌∙◌, ℕ, ◌≤◌, false, List, [], ◌∷◌, ◌++◌, length, Option, None, refl, sym, ap, subst, arith, length-append}
use Rattle.call_steps.proofs.CallsMade.{same-work}
use Rattle.call_steps.specs.{Calls.{HasCalled, HasEndedCall, HasPulledFor}, Opened.{CalledAt, IsButCommand, IsCallDone, IsCallOpen}}
use Rattle.list_words.proofs.Elements.{Some-same}
use Rattle.row_ledger.proofs.{Before.at-later, Positions.event_at-here}
use Rattle.row_ledger.specs.{Past.event_at, declared.event.Event.Event, declared.settings.{Call.Call, How.How}}
use Rattle.row_ledger.specs.declared.event.Event.TheVariants.{Called, Ended, Synced}
use Rattle.script_run.proofs.{Begin.begins-own, PlaceFacts.{begins_of-here, begins_of-other}}
use Rattle.script_run.specs.{Places.{begins_in, begins_of}, Runs.{HasPulls, PullsAlone}}
use Rattle.session_steps.specs.seat_steps.proofs.Since.{extends-on}
use Rattle.session_steps.specs.seat_steps.specs.{Booked.IsAsBefore, Floors.IsSeated, declared.floor.{Floor.Floor, Player.Player}}
use Rattle.session_steps.proofs.Heard.{begun-nothing, numbered}
use Rattle.turn_table.specs.Numbered.{Extends}
use Rattle.session_steps.specs.volap_cell.specs.{Commands.pulled_once, ImageKinds.doing, Values.{ActorValue, JobValue, actor_of}, declared.command.Command.Command}

pub extends-length : (was now : List Event) → Extends now was → length was ≤ length now
extends-length was now later = omega (arith, ap length later.1, length-append later.0 was)

-- what has been changed is that but for what the actor has noted and keeps
but-command : (command : Option Command) (job : Option JobValue) (seen : ℕ) (a b : ActorValue) → b ≡ record a { command = command; job = job; seen = seen } → IsButCommand command job a b
but-command command job seen a b is = is ∙ (λ i. record a {
  command = command;
  job = job;
  seen = sym (ap (λ (x : ActorValue). x.seen) is) i;
  purse = sym (ap (λ (x : ActorValue). x.purse) is) i;
  boxes = sym (ap (λ (x : ActorValue). x.boxes) is) i;
  gone_gates = sym (ap (λ (x : ActorValue). x.gone_gates) is) i;
})

-- twice changed so it is so
pub but-on : (first second : Option Command) (j k : Option JobValue) (a b c : ActorValue) → IsButCommand first j a b → IsButCommand second k b c → IsButCommand second k a c
but-on first second j k a b c one two = two ∙ ap (λ (x : ActorValue). record x { command = second; job = k; seen = c.seen; purse = c.purse; boxes = c.boxes; gone_gates = c.gone_gates }) one

-- more was seen, and the actor had begun nothing in that
pub called-still : (of : ℕ) (call : Call) (start was now : Player) → CalledAt of call start was → now.number ≡ was.number → Extends now.seat.view.seen was.seat.view.seen
    → begins_of now.seat.view.seen was.number ≡ begins_of was.seat.view.seen was.number → CalledAt of call start now
called-still of call start was now called number longer same = record {
  number = number ∙ called.number;
  past = called.past;
  at = ap (λ (h : List Event). event_at h of) longer.1 ∙ at-later longer.0 was.seat.view.seen of (Called start.number call) called.at;
  one = subst (λ (n : ℕ). begins_of now.seat.view.seen n ≡ begins_of was.seat.view.seen n) called.number same ∙ called.one;
  seen = extends-on now.seat.view.seen was.seat.view.seen start.seat.view.seen longer called.seen;
}

-- an event of nobody's beginning was pushed, on a history in which the actor had begun nothing new
pub called-on : (of : ℕ) (call : Call) (start was now : Player) → CalledAt of call start was → now.number ≡ was.number → (e : Event) → begins_in was.number e ≡ false → (older : List Event) → Extends older was.seat.view.seen
    → now.seat.view.seen ≡ e ∷ older → begins_of older was.number ≡ begins_of was.seat.view.seen was.number → CalledAt of call start now
called-on of call start was now called number e other older behind is only =
    let longer : Extends now.seat.view.seen was.seat.view.seen = extends-on now.seat.view.seen older was.seat.view.seen (e ∷ [], is) behind in
    called-still of call start was now called number longer (ap (λ (h : List Event). begins_of h was.number) is ∙ begins_of-other e older was.number other ∙ only)

module _ (f : Floor) (of : ℕ) (call : Call) (start : Player) where
  pub call-opened : (now : Player) → IsSeated f start → HasCalled f of call start now → IsCallOpen f of call start now
  call-opened now seated has =
      let older = has.pushed.older in
      let e = Called start.number call in
      let is : now.seat.view.seen ≡ e ∷ older = has.pushed.now_is ∙ ap (λ (n : ℕ). Called n call ∷ older) (numbered f start seated) in
      let longer = extends-length start.seat.view.seen older has.pushed.behind in
      record {
        called = record {
          number = has.pushed.number;
          past = subst (λ (k : ℕ). length start.seat.view.seen ≤ k) (sym has.position) longer;
          at = (λ i. event_at (is i) (has.position i)) ∙ event_at-here e older;
          one = ap (λ (h : List Event). begins_of h start.number) is ∙ begins_of-here e older start.number (begins-own start.number e refl) ∙ (λ i. has.pushed.only i ++ sym has.position i ∷ []);
          seen = extends-on now.seat.view.seen older start.seat.view.seen (e ∷ [], is) has.pushed.behind;
        };
        stands = has.pushed.stands;
        work = has.work;
        job = has.job;
        actor = but-command (doing of has.work) has.job (length now.seat.view.seen) (actor_of start.actor) (actor_of now.actor) has.actor;
        noted = (let all = ap (λ (a : ActorValue). a.seen) has.actor in omega (arith, all));
      }

  module _ (was : Player) (is_open : IsCallOpen f of call start was) where
    pub command-is : (actor_of was.actor).command ≡ doing of is_open.work
    command-is = ap (λ (a : ActorValue). a.command) is_open.actor

    pub pulled-on : (server : ℕ) (now : Player) → HasPulledFor f server was now → IsCallOpen f of call start now
    pulled-on server now has =
        let work : has.work ≡ is_open.work = same-work has.of of has.work is_open.work (actor_of was.actor).command has.command command-is in
        let place : has.of ≡ of = ap (λ (c : Command). c.of) (sym (Some-same (record { of = has.of; work = has.work }) (record { of = of; work = is_open.work }) (sym has.command ∙ command-is))) in
        let now_is : actor_of now.actor ≡ record (actor_of was.actor) { command = doing of (pulled_once is_open.work); job = is_open.job; seen = length now.seat.view.seen } =
        has.actor ∙ (λ i. record (actor_of was.actor) { command = doing (place i) (pulled_once (work i)); job = ap (λ (a : ActorValue). a.job) is_open.actor i; seen = length now.seat.view.seen }) in
        record {
          called = called-on of call start was now is_open.called has.pushed.number (Synced server has.listing) refl has.pushed.older has.pushed.behind has.pushed.now_is has.pushed.only;
          stands = has.pushed.stands;
          work = pulled_once is_open.work;
          job = is_open.job;
          actor = but-on (doing of is_open.work) (doing of (pulled_once is_open.work)) is_open.job is_open.job (actor_of start.actor) (actor_of was.actor) (actor_of now.actor) is_open.actor
              (but-command (doing of (pulled_once is_open.work)) is_open.job (length now.seat.view.seen) (actor_of was.actor) (actor_of now.actor) now_is);
          noted = (let all = ap (λ (a : ActorValue). a.seen) now_is in omega (arith, all));
        }

    pub call-done : (how : How) (now : Player) → HasEndedCall f how was now → IsCallDone f of call how start now
    call-done how now has =
        let place : has.of ≡ of = ap (λ (c : Command). c.of) (sym (Some-same (record { of = has.of; work = has.work }) (record { of = of; work = is_open.work }) (sym has.command ∙ command-is))) in
        record {
          called = called-on of call start was now is_open.called has.pushed.number (Ended has.of how) refl has.pushed.older has.pushed.behind has.pushed.now_is has.pushed.only;
          stands = has.pushed.stands;
          actor = but-on (doing of is_open.work) None is_open.job None (actor_of start.actor) (actor_of was.actor) (actor_of now.actor) is_open.actor
              (but-command None None (length now.seat.view.seen) (actor_of was.actor) (actor_of now.actor) has.actor);
          noted = ap (λ (a : ActorValue). a.seen) has.actor;
          older = has.pushed.older;
          newest = has.pushed.now_is ∙ ap (λ (k : ℕ). Ended k how ∷ has.pushed.older) place;
          right = has.pushed.right;
          pulls = subst (λ (k : ℕ). PullsAlone has.pushed.older k → HasPulls f.with has.pushed.older (Ended k how)) place has.pulls;
        }

-- where its actor goes on as before the call is open still
pub open-still : (f : Floor) (of : ℕ) (call : Call) (start was now : Player) → IsCallOpen f of call start was → IsAsBefore f was now → IsCallOpen f of call start now
open-still f of call start was now is_open same =
    let fewer : (actor_of now.actor).seen ≤ length was.seat.view.seen = subst (λ (a : ActorValue). a.seen ≤ length was.seat.view.seen) (sym same.actor) is_open.noted in
    let longer = extends-length was.seat.view.seen now.seat.view.seen same.seen in
    let none : begins_of now.seat.view.seen was.number ≡ begins_of was.seat.view.seen was.number = subst (λ (n : ℕ). begins_of now.seat.view.seen n ≡ begins_of was.seat.view.seen n) same.number
    (begun-nothing f now same.stands.seated was.seat.view.seen same.seen fewer) in
    record {
      called = called-still of call start was now is_open.called same.number same.seen none;
      stands = same.stands;
      work = is_open.work;
      job = is_open.job;
      actor = same.actor ∙ is_open.actor ∙ (λ i. record (actor_of start.actor) {
        command = doing of is_open.work;
        job = is_open.job;
        seen = sym (ap (λ (a : ActorValue). a.seen) same.actor) i;
        purse = sym (ap (λ (a : ActorValue). a.purse) same.actor) i;
        boxes = sym (ap (λ (a : ActorValue). a.boxes) same.actor) i;
        gone_gates = sym (ap (λ (a : ActorValue). a.gone_gates) same.actor) i;
      });
      noted = omega arith;
    }

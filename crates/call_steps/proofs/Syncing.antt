-- A sync at each of its steps: what is asked of its actor there.
use Rattle.std.proofs.Common.{◌≡◌, ◌∙◌, ℕ, ◌≤◌, true, false, length, None, refl, sym, ap, subst, arith}
use Rattle.call_steps.proofs.{CallsMade.same-work, OpenCalls.extends-length}
use Rattle.call_steps.specs.Calls.{CanCall, CanEndCall, CanPullFor, HasCalled, HasPulledFor}
use Rattle.row_ledger.specs.declared.settings.{Call.TheVariants.Sync, How.TheVariants.{Fine, NoMemory}}
use Rattle.session_steps.specs.seat_steps.specs.{Booked.IsAsBefore, declared.floor.{Floor.Floor, Player.Player}}
use Rattle.session_steps.specs.volap_cell.specs.{Commands.pulled_once, ImageKinds.doing, Values.{ActorValue, actor_of}, declared.command.Work.Work}
use Rattle.session_steps.specs.volap_cell.specs.declared.command.Work.TheVariants as work_is

module _ (f : Floor) (server of : ℕ) (start was : Player) (can : CanCall f (Sync server) start) (has : HasCalled f of (Sync server) start was) where
  -- it has not pulled yet
  work-is : has.work ≡ work_is.Sync server false
  work-is = has.begins.1.0

  command-is : (actor_of was.actor).command ≡ doing of (work_is.Sync server false)
  command-is = ap (λ (a : ActorValue). a.command) has.actor ∙ ap (λ (k : Work). doing of k) work-is

  no-part : (actor_of was.actor).errand ≡ None
  no-part = ap (λ (a : ActorValue). a.errand) has.actor ∙ can.free.errand

  all-noted : (actor_of was.actor).seen ≤ length was.seat.view.seen
  all-noted = (let all = ap (λ (a : ActorValue). a.seen) has.actor in omega (arith, all))

  pub may-pull : CanPullFor f server was
  may-pull = record { of = of; work = work_is.Sync server false; command = command-is; due = refl; no_part = no-part; noted = all-noted }

  -- where it finds no memory it ends so
  pub may-fail : (now : Player) → IsAsBefore f was now → CanEndCall f NoMemory now
  may-fail now same = record {
    of = of;
    work = work_is.Sync server false;
    command = ap (λ (a : ActorValue). a.command) same.actor ∙ command-is;
    ends = refl;
    no_part = ap (λ (a : ActorValue). a.errand) same.actor ∙ no-part;
    noted = (
        let fewer : (actor_of now.actor).seen ≤ length was.seat.view.seen = subst (λ (a : ActorValue). a.seen ≤ length was.seat.view.seen) (sym same.actor) all-noted in
        let longer = extends-length was.seat.view.seen now.seat.view.seen same.seen in
        omega arith
        );
  }

  -- and where it has pulled it ends well
  pub may-end : (now : Player) → HasPulledFor f server was now → CanEndCall f Fine now
  may-end now pulled = record {
    of = pulled.of;
    work = work_is.Sync server true;
    command = ap (λ (a : ActorValue). a.command) pulled.actor
        ∙ ap (λ (k : Work). doing pulled.of (pulled_once k)) (same-work pulled.of of pulled.work (work_is.Sync server false) (actor_of was.actor).command pulled.command command-is);
    ends = refl;
    no_part = ap (λ (a : ActorValue). a.errand) pulled.actor ∙ no-part;
    noted = (let all = ap (λ (a : ActorValue). a.seen) pulled.actor in omega (arith, all));
  }

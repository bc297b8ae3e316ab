-- A call of a split, a move or a balance goes on from its beginning to its end.
use Rattle.std.proofs.Common.{◌≡◌, ◌∙◌, ℕ, ◌≤◌, Bool, true, false, List, ◌∷◌, length, Option, Some, None, option_and_then, refl, sym, ap, subst, arith}
use Rattle.std.specs.Prelude.{IfSome}
use Rattle.actor_run.specs.call_steps.proofs.OpenCalls.{but-on, call-opened, called-on, called-still, command-is, extends-length, open-still}
use Rattle.actor_run.specs.call_steps.specs.{Calls.{BeginsWith, CanEndCall, CanLeaveAction, HasCalled, HasLeftAction}, Opened.{IsButCommand, IsCallDone, IsCallOpen}}
use Rattle.hall_admin.proofs.Keeping.{caller-stands}
use Rattle.hall_admin.specs.{Callers.IsCaller, Jobs.{IsJobOpen, IsOfJob}}
use Rattle.job_steps.specs.Jobs.{GoesOnWithJob, HasEndedAction, HasPassed, IsFurtherJob, IsOfAdmin, IsOutcome, IsToEnd, IsToLeave}
use Rattle.list_words.proofs.Elements.{Some-same}
use Rattle.row_ledger.proofs.Before.{at-later}
use Rattle.row_ledger.specs.{Classes.class_of, Past.{call_at, call_in, event_at}, declared.class.Class.Class, declared.event.Event.Event, declared.settings.{Call.Call, How.How}}
use Rattle.row_ledger.specs.declared.class.Class.TheVariants as class
use Rattle.row_ledger.specs.declared.event.Event.TheVariants.{Called, Ended, Left}
use Rattle.row_ledger.specs.Settled.{pulls_since}
use Rattle.script_run.specs.{Places.{begins_in, begins_of}, Runs.ArePulls}
use Rattle.job_steps.specs.seat_steps.specs.{Booked.{HasPushed, IsAsBefore}, declared.floor.{Floor.Floor, Player.Player}}
use Rattle.actor_run.specs.session_steps.proofs.Heard.{begun-nothing}
use Rattle.job_steps.specs.volap_cell.specs.{Commands.{MayNoteEnd, after_action}, Planning.next_job, ImageKinds.{IsBegun, doing}, Values.{ActorValue, JobValue, actor_of}, declared.command.{Balance.Balance, Command.Command, Work.Work}, declared.role.Role.TheVariants.Admin}
use Rattle.job_steps.specs.volap_cell.specs.declared.command.Work.TheVariants as work_is

-- a balance is one still when it is further, and a split or a move is the same
further-kind : (w v : Work) → IsOfAdmin w → IsFurtherJob w v → IsOfAdmin v
further-kind (work_is.Balance b) v kind further = subst IsOfAdmin (sym further.1) tt
further-kind (work_is.Action a) v kind same = subst IsOfAdmin (sym same) tt
further-kind w v kind same = absurd kind

-- no event that an action comes to begins a command
outcome-other : (n : ℕ) (done : Bool) (to : Option ℕ) (of shard : ℕ) (e : Event) → IsOutcome done to of shard e → begins_in n e ≡ false
outcome-other n true None of shard e is = ap (begins_in n) is.2
outcome-other n true (Some to) of shard e is = ap (begins_in n) is
outcome-other n false to of shard e is = ap (begins_in n) is

-- a split, a move and a balance pull nothing
no-pulls : (servers : ℕ) (class : Class) (how : How) (pulled : List ℕ) → IsOfJob class → ArePulls servers class how pulled
no-pulls servers (class.Action action) how pulled kind = tt
no-pulls servers (class.Balance most) how pulled kind = tt
no-pulls servers class how pulled kind = absurd kind

-- such a call begins with a work of that kind
begun-kind : (f : Floor) (call : Call) (work : Work) (job : Option JobValue) → IsOfJob (class_of call) → BeginsWith f call work job → IsOfAdmin work
begun-kind f call work job kind (registry, begun) = by (class_of call) kind begun
  where
    by : (c : Class) → IsOfJob c → IsBegun f.with.workers registry c work job → IsOfAdmin work
    by (class.Action action) kind begun = subst IsOfAdmin (sym begun.0) tt
    by (class.Balance most) kind begun = subst IsOfAdmin (sym begun.1.1) tt
    by c kind begun = absurd kind

module _ (f : Floor) (of : ℕ) (call : Call) (start : Player) where
  -- when an administrator has begun it it is open
  pub job-begun : (now : Player) → IsCaller f Admin start → IsOfJob (class_of call) → HasCalled f of call start now → IsJobOpen f of call start now
  job-begun now caller kind has =
      let opened = call-opened f of call start now (caller-stands f Admin start caller).seated has in
      record {
        kind = kind;
        opened = opened;
        has = record {
          of = of;
          work = has.work;
          command = ap (λ (a : ActorValue). a.command) has.actor;
          kind = begun-kind f call has.work has.job kind has.begins;
          no_part = ap (λ (a : ActorValue). a.errand) has.actor ∙ caller.pass.idle.errand;
          noted = opened.noted;
        };
      }

  module _ (was : Player) (is_open : IsJobOpen f of call start was) where
    abbrev a : ActorValue
    a = actor_of was.actor

    abbrev opened : IsCallOpen f of call start was
    opened = is_open.opened

    -- its command began at that position
    place-is : (k : ℕ) (work : Work) → a.command ≡ doing k work → k ≡ of
    place-is k work is =
        ap (λ (c : Command). c.of) (sym (Some-same (record { of = k; work = work }) (record { of = of; work = opened.work }) (sym is ∙ command-is f of call start was opened)))

    -- it went on by a step
    pub step-on : (now : Player) → GoesOnWithJob f was now → IsJobOpen f of call start now
    step-on now went =
        let on = went.command of opened.work (command-is f of call start was opened) in
        let has = went.command is_open.has.of is_open.has.work is_open.has.command in
        let fewer : (actor_of now.actor).seen ≤ length was.seat.view.seen = subst (λ (n : ℕ). n ≤ length was.seat.view.seen) (sym (ap (λ (x : ActorValue). x.seen) on.2)) opened.noted in
        let longer = extends-length was.seat.view.seen now.seat.view.seen went.seen in
        let none : begins_of now.seat.view.seen was.number ≡ begins_of was.seat.view.seen was.number = subst (λ (n : ℕ). begins_of now.seat.view.seen n ≡ begins_of was.seat.view.seen n) went.number
        (begun-nothing f now went.stands.seated was.seat.view.seen went.seen fewer) in
        let noted : (actor_of now.actor).seen ≤ length now.seat.view.seen = omega arith in
        record {
          kind = is_open.kind;
          opened = record {
            called = called-still of call start was now opened.called went.number went.seen none;
            stands = went.stands;
            work = on.0;
            job = (actor_of now.actor).job;
            actor = but-on (doing of opened.work) (doing of on.0) opened.job (actor_of now.actor).job (actor_of start.actor) a (actor_of now.actor) opened.actor
                (subst (IsButCommand (doing of on.0) (actor_of now.actor).job a) (sym on.2) refl);
            noted = noted;
          };
          has = record {
            of = is_open.has.of;
            work = has.0;
            command = ap (λ (x : ActorValue). x.command) has.2;
            kind = further-kind is_open.has.work has.0 is_open.has.kind has.1;
            no_part = ap (λ (x : ActorValue). x.errand) has.2 ∙ is_open.has.no_part;
            noted = noted;
          };
        }

    -- an event of its balance was pushed, which is at this work now
    action-on : (k : ℕ) (balance balance_now : Balance) (job_now : Option JobValue) (b : ActorValue) (now : Player) → a.command ≡ doing k (work_is.Balance balance)
        → (e : Event) → begins_in was.number e ≡ false → (event_of : ActorValue → ℕ → Event) → (pushed : HasPushed f event_of was now) → event_of a (length pushed.older) ≡ e
        → actor_of now.actor ≡ b → b ≡ record a { command = doing k (work_is.Balance balance_now); job = job_now; seen = length now.seat.view.seen; purse = b.purse; gone_gates = b.gone_gates }
        → IsJobOpen f of call start now
    action-on k balance balance_now job_now b now command e other event_of pushed event_is now_is b_is =
        let place = place-is k (work_is.Balance balance) command in
        let is : actor_of now.actor ≡ record a { command = doing of (work_is.Balance balance_now); job = job_now; seen = length now.seat.view.seen; purse = b.purse; gone_gates = b.gone_gates } =
        now_is ∙ b_is ∙ (λ i. record a { command = doing (place i) (work_is.Balance balance_now); job = job_now; seen = length now.seat.view.seen; purse = b.purse; gone_gates = b.gone_gates }) in
        let all = ap (λ (x : ActorValue). x.seen) is in
        let noted : (actor_of now.actor).seen ≤ length now.seat.view.seen = omega (arith, all) in
        record {
          kind = is_open.kind;
          opened = record {
            called = called-on of call start was now opened.called pushed.number e other pushed.older pushed.behind (pushed.now_is ∙ ap (λ (x : Event). x ∷ pushed.older) event_is) pushed.only;
            stands = pushed.stands;
            work = work_is.Balance balance_now;
            job = job_now;
            actor = but-on (doing of opened.work) (doing of (work_is.Balance balance_now)) opened.job job_now (actor_of start.actor) a (actor_of now.actor) opened.actor
                (subst (IsButCommand (doing of (work_is.Balance balance_now)) job_now a) (sym is) refl);
            noted = noted;
          };
          has = record {
            of = of;
            work = work_is.Balance balance_now;
            command = ap (λ (x : ActorValue). x.command) is;
            kind = tt;
            no_part = ap (λ (x : ActorValue). x.errand) is ∙ is_open.has.no_part;
            noted = noted;
          };
        }

    -- its balance is past an action
    pub passed-on : (now : Player) → HasPassed f was now → IsJobOpen f of call start now
    passed-on now has =
        action-on has.of has.balance (after_action has.done has.job has.balance) (next_job (after_action has.done has.job has.balance)) _ now has.command
        has.newest (outcome-other was.number has.done has.job.to has.of has.job.shard has.newest has.outcome) (λ a k. has.newest) has.pushed refl has.actor refl

    -- its balance left one
    pub left-on : (now : Player) → HasLeftAction f was now → IsJobOpen f of call start now
    left-on now has =
        action-on has.of has.balance (after_action false has.job has.balance) (next_job (after_action false has.job has.balance)) _ now has.command
        (Left has.of has.job.shard has.how) refl (λ a k. Left has.of has.job.shard has.how) has.pushed refl has.actor refl

    -- It waits.
    module _ (now : Player) (same : IsAsBefore f was now) where
      pub still-open : IsJobOpen f of call start now
      still-open =
          let on = open-still f of call start was now opened same in
          record {
            kind = is_open.kind;
            opened = on;
            has = record {
              of = is_open.has.of;
              work = is_open.has.work;
              command = ap (λ (x : ActorValue). x.command) same.actor ∙ is_open.has.command;
              kind = is_open.has.kind;
              no_part = ap (λ (x : ActorValue). x.errand) same.actor ∙ is_open.has.no_part;
              noted = on.noted;
            };
          }

    -- its balance may leave the action
    pub may-leave : (now : Player) → IsToLeave f was now → CanLeaveAction now
    may-leave now leaves =
        let on = still-open now leaves.same in
        record {
          of = leaves.of;
          balance = leaves.balance;
          command = ap (λ (x : ActorValue). x.command) leaves.same.actor ∙ leaves.command;
          job = leaves.job;
          job_is = ap (λ (x : ActorValue). x.job) leaves.same.actor ∙ leaves.job_is;
          left = leaves.left;
          no_part = on.has.no_part;
          noted = on.has.noted;
        }

    -- it may end
    pub may-end : (how : How) (now : Player) → IsToEnd f how was now → CanEndCall f how now
    may-end how now ends =
        let on = still-open now ends.same in
        record {
          of = ends.of;
          work = ends.work;
          command = ap (λ (x : ActorValue). x.command) ends.same.actor ∙ ends.command;
          ends = subst (λ (x : ActorValue). MayNoteEnd f.with.servers ends.work x.job how) (sym ends.same.actor) ends.ends;
          no_part = on.has.no_part;
          noted = on.has.noted;
        }

    -- it was ended by the step of its one action, and pulled nothing
    pub action-done : (how : How) (now : Player) → HasEndedAction f how was now → IsCallDone f of call how start now
    action-done how now has =
        let older = has.pushed.older in
        let place = place-is has.of has.work has.command in
        let at : call_at older of ≡ Some call =
        ap (option_and_then call_in) (ap (λ (h : List Event). event_at h of) has.pushed.behind.1 ∙ at-later has.pushed.behind.0 was.seat.view.seen of (Called start.number call) opened.called.at) in
        record {
          called = called-on of call start was now opened.called has.pushed.number (Ended has.of how) refl older has.pushed.behind has.pushed.now_is has.pushed.only;
          stands = has.pushed.stands;
          actor = but-on (doing of opened.work) None opened.job None (actor_of start.actor) a (actor_of now.actor) opened.actor (subst (IsButCommand None None a) (sym has.actor) refl);
          noted = ap (λ (x : ActorValue). x.seen) has.actor;
          older = older;
          newest = has.pushed.now_is ∙ ap (λ (k : ℕ). Ended k how ∷ older) place;
          right = has.pushed.right;
          pulls = λ alone.
              subst (λ (o : Option Call). IfSome o (λ called. ArePulls f.with.servers (class_of called) how (pulls_since older of))) (sym at)
              (no-pulls f.with.servers (class_of call) how (pulls_since older of) is_open.kind);
        }

-- A session's open command, from step to step until it ends.
use Rattle.std.proofs.Common.{◌≡◌, ◌∙◌, ℕ, ◌≤◌, [], length, Option, Some, None, is_some, option_map, true, false, refl, sym, ap, subst, arith}
use Rattle.actor_run.specs.Driving.{EndsSince, IsOpenSince}
use Rattle.actor_run.proofs.Chains.{extends-length}
use Rattle.row_ledger.specs.declared.event.Event.{Event}
use Rattle.script_run.specs.Places.{begins_of}
use Rattle.whole_steps.specs.part_steps.specs.Goings.{WentOn}
use Rattle.whole_steps.specs.seat_steps.specs.{Floors.Stands, declared.floor.{Floor.Floor, Player.Player}}
use Rattle.whole_steps.specs.session_steps.specs.{Commands.{HasEnded, HasOpen, IsEndFor, IsEndOf, IsFurtherWork, IsOfSession, IsStillOpen}, declared.commands.End.End}
use Rattle.whole_steps.specs.session_steps.specs.declared.commands.End.TheVariants as end
use Rattle.whole_steps.specs.session_steps.proofs.Heard.{begun-nothing}
use Rattle.whole_steps.specs.seat_steps.proofs.Since.{extends-on}
use Rattle.whole_steps.specs.volap_cell.specs.{ImageKinds.doing, Values.{ActorValue, ErrandValue, actor_of, errand_of}, declared.command.{Command.Command, Work.Work}, declared.role.Role.TheVariants.Session}
use Rattle.whole_steps.specs.volap_cell.specs.declared.command.Work.TheVariants as work_is

-- Whether an actor is at a part.

mapped : {A B : Type 0} (f : A → B) (o : Option A) → is_some (option_map f o) ≡ is_some o
mapped f None = refl
mapped f (Some x) = refl

mapped-none : {A B : Type 0} (f : A → B) (o : Option A) → is_some o ≡ false → option_map f o ≡ None
mapped-none f None none = refl
mapped-none f (Some x) none = absurd (cc)

pub some-part : (p : Player) → is_some p.actor.errand ≡ true → is_some (actor_of p.actor).errand ≡ true
some-part p some = mapped errand_of p.actor.errand ∙ some

pub no-part : (p : Player) → is_some p.actor.errand ≡ false → (actor_of p.actor).errand ≡ None
no-part p none = mapped-none errand_of p.actor.errand none

-- What is open.

further-self : (work : Work) → IsFurtherWork work work
further-self (work_is.Insert row routed) = (routed, refl)
further-self _ = refl

further-on : (work mid now : Work) → IsOfSession work → IsFurtherWork work mid → IsFurtherWork mid now → IsFurtherWork work now
further-on (work_is.Insert row routed) mid now kind (r, e) second = subst (λ (m : Work). IsFurtherWork m now → IsFurtherWork (work_is.Insert row routed) now) (sym e) (λ (h : IsFurtherWork (work_is.Insert row r) now). h) second
further-on work_is.Query mid now kind e second = subst (λ (m : Work). IsFurtherWork m now → now ≡ work_is.Query) (sym e) (λ (h : now ≡ work_is.Query). h) second
further-on _ mid now kind e second = absurd kind

pub further-kind : (work now : Work) → IsOfSession work → IsFurtherWork work now → IsOfSession now
further-kind (work_is.Insert row routed) now kind (r, e) = subst IsOfSession (sym e) tt
further-kind work_is.Query now kind e = subst IsOfSession (sym e) tt
further-kind _ now kind e = absurd kind

pub further-end : (r : End) (work now : Work) → IsOfSession work → IsFurtherWork work now → IsEndFor r now → IsEndFor r work
further-end end.Acked (work_is.Insert row routed) now kind f h = (row, routed, refl)
further-end end.Acked work_is.Query now kind e (row, routed, is) = absurd (let never : work_is.Query ≡ work_is.Insert row routed = sym e ∙ is in cc)
further-end (end.Answered agg) (work_is.Insert row routed) now kind (r, e) is = absurd (let never : work_is.Insert row r ≡ work_is.Query = sym e ∙ is in cc)
further-end (end.Answered agg) work_is.Query now kind e is = refl
further-end end.Failed work now kind f h = tt
further-end _ _ now kind f h = absurd kind

abbrev pub IsEndOfCommand : End → Event → Option Command → Type 0
IsEndOfCommand r e None = ⊥
IsEndOfCommand r e (Some c) = IsEndFor r c.work × IsEndOf r c.of e

-- The command of a session that has just begun it is open.
pub just-open : (f : Floor) (p : Player) (server of : ℕ) (work : Work) → Stands f p → (actor_of p.actor).role ≡ Session server → (actor_of p.actor).command ≡ doing of work → IsOfSession work
    → (actor_of p.actor).job ≡ None → (actor_of p.actor).seen ≤ length p.seat.view.seen → IsOpenSince f p p
just-open f p server of work stands role command kind no_job noted = record {
  stands = stands;
  number = refl;
  server = server;
  role = role;
  of = of;
  work = work;
  command = command;
  kind = kind;
  no_job = no_job;
  work_now = work;
  further = further-self work;
  actor = ap (λ (c : Option Command). let z : ActorValue = record (actor_of p.actor) { command = c } in z) command;
  noted = noted;
  seen = ([], refl);
}

module _ (f : Floor) (start was : Player) (is_open : IsOpenSince f start was) where
  abbrev pub st : ActorValue
  st = actor_of start.actor

  abbrev pub a : ActorValue
  a = actor_of was.actor

  command-now : a.command ≡ doing is_open.of is_open.work_now
  command-now = ap (λ (x : ActorValue). x.command) is_open.actor

  -- it is so while nothing is at a part
  pub has-open : a.errand ≡ None → HasOpen was
  has-open no_part = record {
    server = is_open.server;
    role = ap (λ (x : ActorValue). x.role) is_open.actor ∙ is_open.role;
    of = is_open.of;
    work = is_open.work_now;
    command = command-now;
    kind = further-kind is_open.work is_open.work_now is_open.kind is_open.further;
    no_part = no_part;
    no_job = ap (λ (x : ActorValue). x.job) is_open.actor ∙ is_open.no_job;
  }

  module _ (now : Player) where
    abbrev pub b : ActorValue
    b = actor_of now.actor

    -- it is open behind a step of a part
    pub part-on : WentOn f was now → IsOpenSince f start now
    part-on went = record {
      stands = went.stands;
      number = went.number ∙ is_open.number;
      server = is_open.server;
      role = is_open.role;
      of = is_open.of;
      work = is_open.work;
      command = is_open.command;
      kind = is_open.kind;
      no_job = is_open.no_job;
      work_now = is_open.work_now;
      further = is_open.further;
      actor = went.beside ∙ ap (λ (x : ActorValue). let z : ActorValue = record x { errand = b.errand; purse = b.purse; boxes = b.boxes } in z) is_open.actor;
      noted = is_open.noted;
      seen = extends-on now.seat.view.seen was.seat.view.seen start.seat.view.seen went.seen is_open.seen;
    }

    -- and behind a step of its own that doesn't end it
    pub command-on : IsStillOpen f was now → IsOpenSince f start now
    command-on still =
        let c = still.command is_open.of is_open.work_now command-now in
        record {
          stands = still.stands;
          number = still.number ∙ is_open.number;
          server = is_open.server;
          role = is_open.role;
          of = is_open.of;
          work = is_open.work;
          command = is_open.command;
          kind = is_open.kind;
          no_job = is_open.no_job;
          work_now = c.0;
          further = further-on is_open.work is_open.work_now c.0 is_open.kind is_open.further c.1;
          actor = subst (λ (x : ActorValue). x ≡ record st { command = doing is_open.of c.0; errand = x.errand; purse = x.purse; boxes = x.boxes }) (sym c.2)
              (ap (λ (x : ActorValue). let z : ActorValue = record x { command = doing is_open.of c.0; errand = b.errand } in z) is_open.actor);
          noted = is_open.noted;
          seen = extends-on now.seat.view.seen was.seat.view.seen start.seat.view.seen still.seen is_open.seen;
        }

    -- Nothing else has begun where it ends.
    pub ends-since : (r : End) → a.errand ≡ None → HasEnded f r was now → EndsSince f r start now
    ends-since r no_part ended =
        let t = ended.ends is_open.of is_open.work_now command-now in
        let seen : a.seen ≡ st.seen = ap (λ (x : ActorValue). x.seen) is_open.actor in
        let few : a.seen ≤ length start.seat.view.seen = subst (λ (n : ℕ). n ≤ length start.seat.view.seen) (sym seen) is_open.noted in
        let longer = extends-length start.seat.view.seen was.seat.view.seen is_open.seen in
        record {
          stands = ended.stands;
          number = ended.number ∙ is_open.number;
          older = ended.older;
          behind = extends-on ended.older was.seat.view.seen start.seat.view.seen ended.behind is_open.seen;
          newest = ended.newest;
          now_is = ended.now_is;
          right = ended.right;
          only = subst (λ (n : ℕ). begins_of now.seat.view.seen n ≡ begins_of start.seat.view.seen n) is_open.number
              (ended.only (omega arith) ∙ begun-nothing f was is_open.stands.seated start.seat.view.seen is_open.seen few);
          ends = λ of work command. subst (λ (c : Option Command). IsEndOfCommand r ended.newest c) (sym is_open.command ∙ command)
              (further-end r is_open.work is_open.work_now is_open.kind is_open.further t.0, t.1);
          actor = subst (λ (x : ActorValue). x ≡ record st { command = None; errand = None; seen = length now.seat.view.seen; purse = x.purse; boxes = x.boxes }) (sym t.2)
              (ap (λ (x : ActorValue). let z : ActorValue = record x { command = None; seen = length now.seat.view.seen } in z) is_open.actor
              ∙ ap (λ (o : Option ErrandValue). let z : ActorValue = record st { command = None; errand = o; seen = length now.seat.view.seen; purse = a.purse; boxes = a.boxes } in z) no_part);
        }

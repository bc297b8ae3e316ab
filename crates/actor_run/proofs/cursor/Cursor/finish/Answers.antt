use Rattle.std.proofs.Common.{◌≡◌, sym, ap, subst}
use Rattle.actor_run.specs.{Cursors.{CursorValue, HasFinished, IsCursor, cursor_of}, Driving.EndsSince, Sessions.session_of}
use Rattle.actor_run.proofs.CursorOpen.{cursor-answered, cursor-failed, cursor-open, cursor-session, cursor-unacked}
use Rattle.whole_steps.specs.session_steps.proofs.Servers.{server-below}
use Rattle.actor_run.specs.declared.session.Asked.{Asked as AskedAnswer}
use Rattle.actor_run.specs.declared.session.Asked.TheVariants as asked
use Rattle.whole_steps.specs.seat_steps.specs.declared.floor.Floor.{Floor}
use Rattle.whole_steps.specs.session_steps.specs.declared.commands.End.{End}
use Rattle.whole_steps.specs.volap_cell.specs.Values.{ActorValue}
use Rattle.actor_run.proofs.cursor.Cursor.finish.Goals as goal
use Rattle.actor_run.proofs.cursor.Cursor.finish.Goals.{in-Answered, in-Failed}

pub bell-requires : goal.bell-requires
bell-requires g c = (let i = c.self.inside in let s = c.self.invariant.session in server-below i.hall.now i.was.value s.stands.seated i.server s.role)

pub drive-end-requires-clause-open : goal.drive-end-requires-clause-open
drive-end-requires-clause-open g c _ _ =
    let i = c.self.inside in
    let is = subst (λ (f : Floor). IsCursor f i.server i.was.value i.of i.filter.value i.player) (sym c.hall.view_is) c.self.invariant in
    cursor-open c.hall.inside.floor i.server i.was.value i.of i.filter.value i.player is

pub invariant_of-session : goal.invariant_of-session
invariant_of-session g c =
    let i = c.self.inside in
    let now = c.drive-end.new.player in
    let ended = subst (λ (f : Floor). EndsSince f c.drive-end.result i.player now) c.hall.view_is c.drive-end.ensures.ends in
    record {
      session = cursor-session i.hall.now i.server i.was.value i.of i.filter.value i.player c.self.invariant c.drive-end.result now ended;
      count = ap (λ (a : ActorValue). a.seen) ended.actor;
    }

pub unreachable-requires : goal.unreachable-requires
unreachable-requires g c =
    let i = c.self.inside in
    let now = c.drive-end.new.player in
    let ended = subst (λ (x : Floor × End). EndsSince x.0 x.1 i.player now) (λ k. (c.hall.view_is k, c.in-Acked.is k)) c.drive-end.ensures.ends in
    absurd (cursor-unacked i.hall.now i.server i.was.value i.of i.filter.value i.player c.self.invariant now ended)

pub returns : goal.returns
returns g c =
    let i = c.self.inside in
    let now = c.drive-end.new.player in
    let as_seen = λ (a : AskedAnswer) (same : c.match-end.answer ≡ a) (h : HasFinished a (cursor_of i.hall.now i.server i.was.value i.of i.filter.value i.player) (session_of i.hall.now i.server now)).
    subst (λ (x : AskedAnswer × CursorValue). HasFinished x.0 x.1 (session_of i.hall.now i.server now)) (λ k. (sym same k, c.self.view_is k)) h in
    record {
      finished = elim c.match-end.branch [
        | in-Answered w ↦
            let ended = subst (λ (x : Floor × End). EndsSince x.0 x.1 i.player now) (λ k. (c.hall.view_is k, w.in-Answered.is k)) c.drive-end.ensures.ends in
            as_seen (asked.Answer i.of w.in-Answered.agg) w.answer-is (cursor-answered i.hall.now i.server i.was.value i.of i.filter.value i.player c.self.invariant now w.in-Answered.agg ended)
        | in-Failed w ↦
            let ended = subst (λ (x : Floor × End). EndsSince x.0 x.1 i.player now) (λ k. (c.hall.view_is k, w.in-Failed.is k)) c.drive-end.ensures.ends in
            as_seen asked.NoMemory w.answer-is (cursor-failed i.hall.now i.server i.was.value i.of i.filter.value i.player c.self.invariant now ended)
      ];
    }

use Rattle.std.proofs.Common.{◌≡◌, ◌∙◌, ap, subst, sym}
use Rattle.std.specs.Prelude.{OnErr, OnOk}
use Rattle.hall_hands.specs.actor_run.specs.Sessions.{SessionValue, session_of}
use Rattle.session_runs.specs.Sessions.{DoesFirst, DoesInTurn, stream_of}
use Rattle.threaded_run.proofs.Coming.{came-by, session-back}
use Rattle.threaded_run.specs.Streams.{AllFit}
use Rattle.threaded_run.proofs.jobs.do_all.Goals as goal

pub do_commands-done-requires-clause-fits : goal.do_commands-done-requires-clause-fits
do_commands-done-requires-clause-fits g c _ _ = subst (λ (s : SessionValue). AllFit s.floor c.args.commands.now) (sym c.of-session.ensures) c.requires.fits

pub returns : goal.returns
returns g c =
    let f = c.args.hall.now in
    let server = c.args.server in
    let start = c.args.player in
    let commands = c.args.commands.now in
    let r = c.do_commands-done.result in
    let s = c.do_commands-done.new.session in
    let first = c.of-session.ensures in
    let same : s ≡ record (session_of f server start) { seen = s.seen } = c.do_commands-done.ensures.same ∙ ap (λ (v : SessionValue). let z : SessionValue = record v { seen = s.seen } in z) first in
    let done = subst (λ (v : SessionValue). OnOk r (DoesInTurn v.floor.with v.floor.hierarchy server (stream_of v.floor.with commands server) v.seen s.seen)) first c.do_commands-done.ensures.done in
    let stopped = subst (λ (v : SessionValue). OnErr r (DoesFirst v.floor.with v.floor.hierarchy server (stream_of v.floor.with commands server) v.seen s.seen)) first c.do_commands-done.ensures.stopped in
    record {
      back = session-back f server commands start c.requires.number s same c.is_err.result (came-by r f server commands start.seat.view.seen s.seen c.is_err.result c.is_err.ensures.value done stopped)
          c.end.result c.end.ensures.of c.end.ensures.made c.into_player.result c.into_player.ensures.pass c.into_player.ensures.same;
    }

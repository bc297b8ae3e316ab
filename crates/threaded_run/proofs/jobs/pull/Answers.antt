use Rattle.std.proofs.Common.{◌≡◌, ◌∙◌, ap, subst, sym}
use Rattle.std.specs.Prelude.{OnErr, OnOk}
use Rattle.hall_admin.specs.Callers.{CallerValue, caller_of}
use Rattle.session_runs.specs.Sessions.{DoesFirst, DoesInTurn, stream_of}
use Rattle.threaded_run.proofs.Coming.{came-by, caller-back, first-caller}
use Rattle.threaded_run.specs.Streams.{AllFit}
use Rattle.script_roles.specs.volap_cell.specs.declared.role.Role.TheVariants.{Puller}
use Rattle.threaded_run.proofs.jobs.pull.Goals as goal

pub pull_all-done-requires-clause-fits : goal.pull_all-done-requires-clause-fits
pull_all-done-requires-clause-fits g c =
    let first = first-caller c.args.hall.now Puller c.args.commands.now c.args.player c.of.result c.of.ensures c.new-puller.result c.new-puller.ensures.made in
    subst (λ (v : CallerValue). AllFit v.floor c.args.commands.now) (sym first) c.requires.fits

pub returns : goal.returns
returns g c =
    let f = c.args.hall.now in
    let start = c.args.player in
    let commands = c.args.commands.now in
    let r = c.pull_all-done.result in
    let s = c.pull_all-done.new.puller in
    let first = first-caller f Puller commands start c.of.result c.of.ensures c.new-puller.result c.new-puller.ensures.made in
    let same : s ≡ record (caller_of f start) { seen = s.seen } = c.pull_all-done.ensures.same ∙ ap (λ (v : CallerValue). let z : CallerValue = record v { seen = s.seen } in z) first in
    let done = subst (λ (v : CallerValue). OnOk r (DoesInTurn v.floor.with v.floor.hierarchy v.number (stream_of v.floor.with commands v.number) v.seen s.seen)) first c.pull_all-done.ensures.done in
    let stopped = subst (λ (v : CallerValue). OnErr r (DoesFirst v.floor.with v.floor.hierarchy v.number (stream_of v.floor.with commands v.number) v.seen s.seen)) first c.pull_all-done.ensures.stopped in
    record {
      back = caller-back f Puller commands start s same c.is_err.result (came-by r f start.number commands start.seat.view.seen s.seen c.is_err.result c.is_err.ensures.value done stopped)
          c.end.result c.end.ensures.of c.end.ensures.made c.into_player.result c.into_player.ensures.pass c.into_player.ensures.same;
    }

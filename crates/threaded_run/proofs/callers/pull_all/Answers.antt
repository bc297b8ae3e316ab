use Rattle.std.proofs.Common.{◌∙◌, [], ◌∷◌, ap, subst}
use Rattle.hall_admin.specs.Callers.{CallerValue}
use Rattle.session_runs.specs.Sessions.{BeginsNothing, DoesInTurn, stream_of}
use Rattle.hall_hands.specs.seat_steps.proofs.Since.{as-err}
use Rattle.threaded_run.proofs.Turns.{does-first, does-next}
use Rattle.threaded_run.proofs.callers.pull_all.Goals as goal

pub loop-command-preserved : goal.loop-command-preserved
loop-command-preserved g c =
    let start = c.args.puller.now in
    let f = start.floor in
    let mid = c.loop-command.puller in
    let now = c.pull.new.puller in
    let k = c.loop-command.invariant in
    let command = c.command-item.result in
    let did = subst (λ (v : CallerValue). DoesInTurn v.floor.with v.floor.hierarchy v.number (stream_of v.floor.with (command ∷ []) v.number) mid.seen now.seen) k.same c.in_ok-pull.ensures.done in
    record {
      same = c.in_ok-pull.ensures.same ∙ ap (λ (v : CallerValue). let z : CallerValue = record v { seen = now.seen } in z) k.same;
      done = does-next f.with f.hierarchy start.number c.args.commands.now c.loop-command.command-index command c.loop-command-test.true c.command-item.is start.seen mid.seen now.seen k.done did;
    }

pub returns-in_err-pull-clause-stopped : goal.returns-in_err-pull-clause-stopped
returns-in_err-pull-clause-stopped g c =
    let start = c.args.puller.now in
    let f = start.floor in
    let k = c.loop-command.invariant in
    let mid = c.loop-command.puller in
    let nothing = subst (λ (v : CallerValue). BeginsNothing v.number mid.seen c.pull.new.puller.seen) k.same c.in_err-pull.ensures.none in
    as-err c.from_residual.result
    (does-first f.with f.hierarchy start.number c.args.commands.now c.loop-command.command-index start.seen mid.seen c.pull.new.puller.seen k.done nothing)

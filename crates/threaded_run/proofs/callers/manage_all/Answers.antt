use Rattle.std.proofs.Common.{◌∙◌, [], ◌∷◌, ap, subst}
use Rattle.hall_admin.specs.Callers.{CallerValue}
use Rattle.session_runs.specs.Sessions.{BeginsNothing, DoesInTurn, stream_of}
use Rattle.hall_hands.specs.seat_steps.proofs.Since.{as-err}
use Rattle.threaded_run.proofs.Turns.{does-first, does-next}
use Rattle.threaded_run.proofs.callers.manage_all.Goals as goal

pub loop-command-preserved : goal.loop-command-preserved
loop-command-preserved g c =
    let start = c.args.admin.now in
    let f = start.floor in
    let mid = c.loop-command.admin in
    let now = c.manage.new.admin in
    let k = c.loop-command.invariant in
    let command = c.command-item.result in
    let did = subst (λ (v : CallerValue). DoesInTurn v.floor.with v.floor.hierarchy v.number (stream_of v.floor.with (command ∷ []) v.number) mid.seen now.seen) k.same c.in_ok-manage.ensures.done in
    record {
      same = c.in_ok-manage.ensures.same ∙ ap (λ (v : CallerValue). let z : CallerValue = record v { seen = now.seen } in z) k.same;
      done = does-next f.with f.hierarchy start.number c.args.commands.now c.loop-command.command-index command c.loop-command-test.true c.command-item.is start.seen mid.seen now.seen k.done did;
    }

pub returns-in_err-manage-clause-stopped : goal.returns-in_err-manage-clause-stopped
returns-in_err-manage-clause-stopped g c =
    let start = c.args.admin.now in
    let f = start.floor in
    let k = c.loop-command.invariant in
    let mid = c.loop-command.admin in
    let nothing = subst (λ (v : CallerValue). BeginsNothing v.number mid.seen c.manage.new.admin.seen) k.same c.in_err-manage.ensures.none in
    as-err c.from_residual.result
    (does-first f.with f.hierarchy start.number c.args.commands.now c.loop-command.command-index start.seen mid.seen c.manage.new.admin.seen k.done nothing)

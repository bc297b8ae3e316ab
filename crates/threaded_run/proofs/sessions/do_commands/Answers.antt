use Rattle.std.proofs.Common.{◌∙◌, [], ◌∷◌, ap, subst}
use Rattle.hall_hands.specs.actor_run.specs.Sessions.{SessionValue}
use Rattle.hall_hands.specs.seat_steps.specs.declared.floor.Floor.{Floor}
use Rattle.session_runs.specs.Sessions.{DoesInTurn, stream_of}
use Rattle.hall_hands.specs.seat_steps.proofs.Since.{as-err}
use Rattle.threaded_run.proofs.Turns.{does-first, does-next}
use Rattle.threaded_run.proofs.sessions.do_commands.Goals as goal

pub loop-command-preserved : goal.loop-command-preserved
loop-command-preserved g c =
    let start = c.args.session.now in
    let f = start.floor in
    let mid = c.loop-command.session in
    let now = c.do_command.new.session in
    let k = c.loop-command.invariant in
    let command = c.command-item.result in
    let floor = ap (λ (v : SessionValue). v.floor) k.same in
    let did = subst (λ (x : Floor). DoesInTurn x.with x.hierarchy c.args.server (stream_of x.with (command ∷ []) c.args.server) mid.seen now.seen) floor c.in_ok-do_command.ensures.done in
    record {
      same = c.in_ok-do_command.ensures.same ∙ ap (λ (v : SessionValue). let z : SessionValue = record v { seen = now.seen } in z) k.same;
      done = does-next f.with f.hierarchy c.args.server c.args.commands.now c.loop-command.command-index command c.loop-command-test.true c.command-item.is start.seen mid.seen now.seen k.done did;
    }

pub returns-in_err-do_command-clause-stopped : goal.returns-in_err-do_command-clause-stopped
returns-in_err-do_command-clause-stopped g c =
    let start = c.args.session.now in
    let f = start.floor in
    let k = c.loop-command.invariant in
    as-err c.from_residual.result
    (does-first f.with f.hierarchy c.args.server c.args.commands.now c.loop-command.command-index start.seen c.loop-command.session.seen c.do_command.new.session.seen k.done c.in_err-do_command.ensures.none)

use Rattle.std.proofs.Common.{[], ◌∷◌, ◌++◌, drop, take}
use Rattle.olap_top.specs.RunSoFar.{HasStopped}
use Rattle.olap_top.specs.Standing.{StandsBehind, history_of}
use Rattle.olap_top.proofs.{Ends.{on_err, on_ok}, Telling.{asks-so, stopped-so, tells-gone, untold-stopped}}
use Rattle.olap_top.proofs.run.run_phase.Goals as goal

pub returns-in_err-run_phase-clause-within : goal.returns-in_err-run_phase-clause-within
returns-in_err-run_phase-clause-within g c = λ wanted ps stands may. (c.run_phase.ensures.into wanted c.args.script.now ps stands may).within

pub returns-in_err-run_phase-clause-stopped : goal.returns-in_err-run_phase-clause-stopped
returns-in_err-run_phase-clause-stopped g c =
    let s = c.args.script.now in
    let may = c.requires.may in
    let into = c.run_phase.ensures.into may.0 s may.1 may.2 may.3 in
    on_err c.from_residual.result _
    (stopped-so s c.args.commands.now c.args.done (history_of c.args.run.now.engine) (history_of c.run_phase.new.self) into.right into.grows (c.in_err-run_phase.ensures.stopped may.0 s may.1 may.2 may.3))

pub read-requires-clause-may : goal.read-requires-clause-may
read-requires-clause-may g c =
    let may = c.requires.may in
    (may.0, c.args.script.now, may.1 ++ drop c.args.done c.args.commands.now ∷ [], (c.in_ok-run_phase.ensures.through may.0 c.args.script.now may.1 may.2 may.3).1)

pub read-requires-clause-asked : goal.read-requires-clause-asked
read-requires-clause-asked g c = λ events grows right.
    let s = c.args.script.now in
    let may = c.requires.may in
    let into = c.run_phase.ensures.into may.0 s may.1 may.2 may.3 in
    let through = c.in_ok-run_phase.ensures.through may.0 s may.1 may.2 may.3 in
    asks-so s c.args.commands.now c.args.done c.with.result.now (history_of c.args.run.now.engine) (history_of c.run_phase.new.self) events c.args.run.now.teller c.take.result c.with.ensures c.take.ensures.value
    c.requires.behind.told into.grows grows (right may.0 s (may.1 ++ drop c.args.done c.args.commands.now ∷ []) through.1)

pub returns-clause-gone : goal.returns-clause-gone
returns-clause-gone g c =
    let s = c.args.script.now in
    let may = c.requires.may in
    let into = c.run_phase.ensures.into may.0 s may.1 may.2 may.3 in
    let through = c.in_ok-run_phase.ensures.through may.0 s may.1 may.2 may.3 in
    let read = c.read.ensures.kept may.0 s (may.1 ++ drop c.args.done c.args.commands.now ∷ []) through.1 in
    tells-gone s c.args.commands.now c.args.done (history_of c.args.run.now.engine) (history_of c.run_phase.new.self) (history_of c.read.new.self) c.args.run.now.teller c.read.new.reader.teller c.read.new.reader.text
    c.requires.low c.requires.behind through.0 into.grows read.grows read.right read.none c.with.result.now c.take.result c.with.ensures c.take.ensures.value c.read.ensures.told

pub returns-clause-stands : goal.returns-clause-stands
returns-clause-stands g c = λ wanted ps stands may.
    let s = c.args.script.now in
    let through = c.in_ok-run_phase.ensures.through wanted s ps stands may in
    on_ok c.read.new.reader.text _ (c.read.ensures.kept wanted s (ps ++ drop c.args.done c.args.commands.now ∷ []) through.1).behind

pub returns-clause-within : goal.returns-clause-within
returns-clause-within g c = λ wanted ps stands may.
    c.read.ensures.within wanted c.args.script.now ps (drop c.args.done c.args.commands.now) (c.run_phase.ensures.into wanted c.args.script.now ps stands may).within

pub returns-clause-stopped : goal.returns-clause-stopped
returns-clause-stopped g c =
    let s = c.args.script.now in
    let may = c.requires.may in
    let into = c.run_phase.ensures.into may.0 s may.1 may.2 may.3 in
    let through = c.in_ok-run_phase.ensures.through may.0 s may.1 may.2 may.3 in
    let read = c.read.ensures.kept may.0 s (may.1 ++ drop c.args.done c.args.commands.now ∷ []) through.1 in
    on_err c.read.new.reader.text _
    (untold-stopped s c.args.commands.now c.args.done (history_of c.args.run.now.engine) (history_of c.run_phase.new.self) (history_of c.read.new.self) c.args.run.now.teller c.read.new.reader.teller c.read.new.reader.text
    c.requires.low c.requires.behind through.0 into.grows read.grows read.right read.none)

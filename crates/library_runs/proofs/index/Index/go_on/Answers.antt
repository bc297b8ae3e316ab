use Rattle.std.proofs.Common.{◌∙◌}
use Rattle.library_runs.proofs.Indexes.{gone-on, may-go-on, split-done, split-whole, still-between}
use Rattle.library_runs.proofs.index.Index.go_on.Goals as goal

pub run_phase-requires-clause-may_run : goal.run_phase-requires-clause-may_run
run_phase-requires-clause-may_run c =
    let split = c.split_at in
    let whole = split-whole c.len-done.result split.result.0.now split.result.1.now c.as_slice.result.now c.push.new.self split.ensures.front split.ensures.back c.as_slice.ensures in
    may-go-on c.args.self c.args.next c.alone.result _ c.requires.held c.requires.may_run c.alone.ensures (whole ∙ c.in_ok-push.ensures.ok)

pub run_phase-requires-clause-between : goal.run_phase-requires-clause-between
run_phase-requires-clause-between c =
    let x = c.args.self in
    let before = c.split_at.result.0.now in
    still-between x c.alone.result before c.requires.held c.alone.ensures
    (split-done c.len-done.result before c.as_slice.result.now c.push.new.self x.commands c.args.next c.split_at.ensures.front c.as_slice.ensures c.in_ok-push.ensures.ok c.len-done.ensures)

pub returns-clause-held : goal.returns-clause-held
returns-clause-held c =
    let split = c.split_at in
    let ran = c.in_ok-run_phase.ensures in
    let whole = split-whole c.len-done.result split.result.0.now split.result.1.now c.as_slice.result.now c.push.new.self split.ensures.front split.ensures.back c.as_slice.ensures in
    gone-on c.args.self c.args.next c.alone.result c.push.new.self split.result.0.now split.result.1.now c.run_phase.new.state c.requires.held c.requires.may_run c.alone.ensures
    c.in_ok-push.ensures.ok whole ran.core ran.about ran.between

use Rattle.std.proofs.Common.{reverse}
use Rattle.answer_text.proofs.ToldLines.{lines_all, lines_pushed}
use Rattle.answer_text.proofs.text.push_lines.Goals as goal

pub loop-i-preserved : goal.loop-i-preserved
loop-i-preserved c =
    let pushed = c.in_ok-push_text.ensures in
    lines_pushed _ _ _ c.args.first c.loop-i.i c.args.commands.now c.args.places.now (reverse c.args.index.now.events.now) c.index-commands-i.result c.loop-i-test.true c.requires.same c.index-commands-i.is pushed c.loop-i.invariant

pub returns : goal.returns
returns c =
    lines_all _ _ c.args.first c.loop-i.i c.args.commands.now c.args.places.now (reverse c.args.index.now.events.now) c.loop-i-test.false c.loop-i.invariant

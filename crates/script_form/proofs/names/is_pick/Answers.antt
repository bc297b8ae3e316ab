use Rattle.script_form.proofs.PieceFacts.{pick_fails, pick_goes_on}
use Rattle.script_form.proofs.names.is_pick.Goals as goal

pub returns-then-not-is_name : goal.returns-then-not-is_name
returns-then-not-is_name c = pick_fails c.args.text.now c.loop-bar.rest.now c.in-Some.bar (cc) c.loop-bar.invariant (cc) (cc)

pub loop-bar-preserved : goal.loop-bar-preserved
loop-bar-preserved c = pick_goes_on c.args.text.now c.loop-bar.rest.now c.in-Some.bar c.loop-bar.invariant (cc) (cc)

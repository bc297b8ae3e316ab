use Rattle.std.proofs.Common.{◌≡◌, ◌++◌, ◌∷◌, [], take, rules}
use Rattle.script_form.proofs.PieceFacts.{pieces_more}
use Rattle.script_form.proofs.names.pieces.Goals as goal

pub loop-bar-preserved : goal.loop-bar-preserved
loop-bar-preserved c =
    let pushed : c.push.new.self ≡ c.loop-bar.names ++ take c.in-Some.bar c.loop-bar.rest.now ∷ [] = search rules in
    rw pushed (pieces_more c.args.text.now c.loop-bar.rest.now c.loop-bar.names c.in-Some.bar c.loop-bar.invariant (cc))

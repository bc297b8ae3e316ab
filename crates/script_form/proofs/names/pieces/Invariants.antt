use Rattle.std.proofs.Common.{◌≡◌, length, ◌++◌}
use Rattle.script_form.specs.Fields.{pieces}
use Rattle.script_form.proofs.names.pieces.Given as goal

abbrev pub invariant-loop-bar : goal.invariant-loop-bar
invariant-loop-bar l = l.names ++ pieces l.rest ≡ pieces l.text

abbrev pub decreases-loop-bar : goal.decreases-loop-bar
decreases-loop-bar l = length l.rest

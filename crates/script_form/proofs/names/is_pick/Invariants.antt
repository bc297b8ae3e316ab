use Rattle.std.proofs.Common.{◌≡◌, length}
use Rattle.std.specs.List.{list_all}
use Rattle.script_form.specs.Fields.{is_name, pieces}
use Rattle.script_form.proofs.names.is_pick.Given as goal

abbrev pub invariant-loop-bar : goal.invariant-loop-bar
invariant-loop-bar l = list_all is_name (pieces l.rest) ≡ list_all is_name (pieces l.text)

abbrev pub decreases-loop-bar : goal.decreases-loop-bar
decreases-loop-bar l = length l.rest

use Rattle.std.proofs.Common.{◌≡◌, ◌++◌, drop, map}
use Rattle.csv.specs.Records.{fields_of}
use Rattle.script_form.specs.Scripts.{pick_of}
use Rattle.script_form.proofs.names.filter.Given as goal

abbrev pub invariant-loop-i : goal.invariant-loop-i
invariant-loop-i l = l.filter ++ map pick_of (drop l.i (fields_of l.row)) ≡ map pick_of (drop l.from (fields_of l.row))

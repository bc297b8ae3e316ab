use Rattle.std.proofs.Common.{◌≡◌, drop}
use Rattle.std.specs.List.{list_all}
use Rattle.csv.specs.Records.{fields_of}
use Rattle.script_form.specs.Fields.{is_name}
use Rattle.script_form.proofs.names.are_names.Given as goal

abbrev pub invariant-loop-i : goal.invariant-loop-i
invariant-loop-i l = list_all is_name (drop l.i (fields_of l.row)) ≡ list_all is_name (drop l.from (fields_of l.row))

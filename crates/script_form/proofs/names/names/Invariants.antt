use Rattle.std.proofs.Common.{◌≡◌, ◌++◌, drop, true}
use Rattle.std.specs.List.{list_all}
use Rattle.csv.specs.Records.{fields_of}
use Rattle.script_form.specs.Fields.{is_name}
use Rattle.script_form.proofs.names.names.Given as goal

abbrev pub invariant-loop-i : goal.invariant-loop-i
invariant-loop-i l = record {
  taken : l.names ++ drop l.i (fields_of l.row) ≡ drop l.from (fields_of l.row);
  left : list_all is_name (drop l.i (fields_of l.row)) ≡ true;
}

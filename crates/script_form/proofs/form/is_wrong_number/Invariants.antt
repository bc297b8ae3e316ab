use Rattle.std.proofs.Common.{◌≡◌, ◌+◌, drop}
use Rattle.csv.specs.Records.{fields_of}
use Rattle.script_form.specs.{Causes.{are_fields, is_number}, Table.form_of}
use Rattle.script_form.proofs.form.is_wrong_number.Given as goal

abbrev pub invariant-loop-i : goal.invariant-loop-i
invariant-loop-i l = are_fields (is_number l.servers) (drop l.i (form_of l.fn.kind).fields) (l.i + 1) (fields_of l.row) ≡ are_fields (is_number l.servers) (form_of l.fn.kind).fields 1 (fields_of l.row)

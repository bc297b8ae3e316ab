use Rattle.std.proofs.Common.{List}
use Rattle.script_form.proofs.{RecordFacts.IsReading, ScriptFacts.SoFar}
use Rattle.script_form.specs.Fields.{Record}
use Rattle.script_form.proofs.reader.read_script.Given as goal

abbrev pub invariant-loop-at : goal.invariant-loop-at
invariant-loop-at l = record {
  rows : List Record;
  reading : IsReading l.reader l.fn.text rows;
  so_far : SoFar rows l.at l.script;
}

use Rattle.std.proofs.Common.{◌≡◌, ◌++◌, take, drop, reverse}
use Rattle.script_run.specs.Places.{places_behind}
use Rattle.answer_text.specs.Marks.{Counts}
use Rattle.answer_text.proofs.text.places.Given as goal

abbrev pub invariant-loop-i : goal.invariant-loop-i
invariant-loop-i l = record {
  counts : Counts l.counts.items l.with (take l.i l.commands);
  places : l.places.items ++ places_behind l.with (take l.i l.commands) (drop l.i l.commands) (reverse l.index.events.now) ≡ places_behind l.with (take l.start l.commands) (drop l.start l.commands) (reverse l.index.events.now);
}

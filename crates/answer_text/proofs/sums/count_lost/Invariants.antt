use Rattle.std.proofs.Common.{◌≡◌, ◌+◌, ◌≤◌, reverse}
use Rattle.std.specs.Prelude.{zip}
use Rattle.answer_text.specs.Summary.{lost}
use Rattle.answer_text.proofs.SummaryFacts.{behind}
use Rattle.answer_text.proofs.sums.count_lost.Given as goal

abbrev pub invariant-loop-i : goal.invariant-loop-i
invariant-loop-i l = record {
  few : l.count ≤ l.i;
  rest : l.count + lost (reverse l.index.events.now) (behind l.commands l.places l.i) ≡ lost (reverse l.index.events.now) (zip l.commands l.places);
}

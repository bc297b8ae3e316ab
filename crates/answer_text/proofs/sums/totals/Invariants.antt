use Rattle.std.proofs.Common.{◌≡◌, ◌++◌, reverse}
use Rattle.std.specs.Prelude.{zip}
use Rattle.answer_text.specs.Summary as sum
use Rattle.answer_text.proofs.SummaryFacts.{behind}
use Rattle.answer_text.proofs.sums.totals.Given as goal

abbrev pub invariant-loop-i : goal.invariant-loop-i
invariant-loop-i l = l.given.items ++ sum.totals (reverse l.index.events.now) (behind l.commands l.places l.i) ≡ sum.totals (reverse l.index.events.now) (zip l.commands l.places)

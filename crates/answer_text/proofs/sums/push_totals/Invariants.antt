use Rattle.std.proofs.Common.{◌≡◌, ◌++◌}
use Rattle.std.specs.String.{string_bytes}
use Rattle.answer_text.specs.Summary.{total_lines}
use Rattle.answer_text.proofs.SummaryFacts.{lines_behind}
use Rattle.answer_text.proofs.sums.push_totals.Given as goal

abbrev pub invariant-loop-i : goal.invariant-loop-i
invariant-loop-i l = string_bytes l.text ++ lines_behind l.given l.i ≡ string_bytes l.fn.text ++ total_lines l.given

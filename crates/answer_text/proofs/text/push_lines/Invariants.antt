use Rattle.std.proofs.Common.{◌≡◌, ◌+◌, ◌++◌, drop, reverse}
use Rattle.std.specs.String.{string_bytes}
use Rattle.answer_text.specs.Printed.{lines}
use Rattle.answer_text.proofs.text.push_lines.Given as goal

abbrev pub invariant-loop-i : goal.invariant-loop-i
invariant-loop-i l =
    string_bytes l.text ++ lines (l.first + l.i) (drop l.i l.commands) (drop l.i l.places) (reverse l.index.events.now) ≡ string_bytes l.fn.text ++ lines l.first l.commands l.places (reverse l.index.events.now)

use Rattle.std.proofs.Common.{length, reverse, take}
use Rattle.answer_text.specs.Notes.{KnowsMarks}
use Rattle.answer_text.proofs.notes.Notes.read.Given as goal

abbrev pub invariant-loop-i : goal.invariant-loop-i
invariant-loop-i l = KnowsMarks (length l.events) l.self (reverse (take l.i l.events))

use Rattle.std.proofs.Common.{◌++◌, take}
use Rattle.std.specs.Fmt.{HasWritten, IsPlainFormatter}
use Rattle.answer_text.specs.Printed.{numbers_text}
use Rattle.answer_text.proofs.pages.NumbersDisplay.fmt.Given as goal

abbrev pub invariant-loop-id : goal.invariant-loop-id
invariant-loop-id g l =
    IsPlainFormatter l.fn.f → HasWritten g.W.Write.write_str_gives l.fn.f (numbers_text (take 1 l.self.0.now ++ take l.id-index l.rest)) l.f

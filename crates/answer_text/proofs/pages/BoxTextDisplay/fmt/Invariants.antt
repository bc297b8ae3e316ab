use Rattle.std.proofs.Common.{◌++◌, take}
use Rattle.std.specs.{Fmt.{HasWritten, IsPlainFormatter}, List.join_by, Prelude.codes}
use Rattle.answer_text.specs.Printed.{part_text}
use Rattle.answer_text.proofs.pages.BoxTextDisplay.fmt.Given as goal

abbrev pub invariant-loop-part : goal.invariant-loop-part
invariant-loop-part g l =
    IsPlainFormatter l.fn.f → HasWritten g.W.Write.write_str_gives l.fn.f (join_by part_text (codes "/") (take 1 l.self.0.now.parts.items ++ take l.part-index l.rest)) l.f

-- The texts of what is said of a command.
use Rattle.std.specs.{Fmt.decimal, Prelude.{ℕ, List, ◌++◌, codes}}
use Rattle.answer_text.specs.{Printed.{decline_text, pair_text, total_text}, declared.answer.Answer.Answer}
use Rattle.answer_text.specs.declared.answer.Answer.TheVariants as answer

abbrev pub said : Answer → List ℕ
said answer.Ok = codes "ok"
said (answer.Halves left right) = codes "ok " ++ pair_text left right
said (answer.Balanced done planned) = pair_text done planned
said (answer.Unknown dim) = codes "unknown " ++ decimal dim
said (answer.Declined why) = codes "declined " ++ decline_text why
said answer.Postponed = codes "postponed"
said answer.NoMemory = codes "nomem"
said (answer.Total total) = total_text total

use Rattle.std.proofs.{Common.arith, lemmas.Grind.common_steps, lemmas.Option.gets}
use Rattle.row_ledger.proofs.Positions.{event_at_reversed}
use Rattle.answer_text.proofs.index.Index.get.Goals as goal

pub returns : goal.returns
returns c = grind (arith, common_steps, gets, event_at_reversed)

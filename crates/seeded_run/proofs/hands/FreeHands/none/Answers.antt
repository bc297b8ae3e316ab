use Rattle.std.proofs.Common.{None}
use Rattle.seeded_run.proofs.Surveys.{none-of}
use Rattle.seeded_run.proofs.hands.FreeHands.none.Goals as goal

pub returns : goal.returns
returns c = λ n. none-of 256 n None

use Rattle.server_image.proofs.Routes.{IsBestRanked}
use Rattle.server_image.proofs.rank.first_for.Given as goal

abbrev pub invariant-loop-place : goal.invariant-loop-place
invariant-loop-place l = IsBestRanked l.h l.at.coord l.spots l.place l.best l.least

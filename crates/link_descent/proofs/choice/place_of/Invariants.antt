use Rattle.std.proofs.Common.{map}
use Rattle.link_descent.proofs.Ranks.{IsBestRanked}
use Rattle.link_descent.proofs.choice.place_of.Given as goal

abbrev pub invariant-loop-place : goal.invariant-loop-place
invariant-loop-place l = IsBestRanked l.h l.at.coord (map (λ e. e.set) l.entries) l.place l.best l.least

use Rattle.server_image.proofs.Routes.{AreBeyond}
use Rattle.server_image.proofs.rank.covering.Given as goal

abbrev pub invariant-loop-place : goal.invariant-loop-place
invariant-loop-place l = AreBeyond l.h l.at.coord l.spots l.place

use Rattle.std.proofs.Common.{ℕ, List, subst, arith}
use Rattle.server_image.specs.Spots.{Grows, along}
use Rattle.server_image.proofs.Boxes.{alone}
use Rattle.server_image.proofs.spots.grow_spots.Goals as goal

pub returns-then-ids-eq1-clause-grown : goal.returns-then-ids-eq1-clause-grown
returns-then-ids-eq1-clause-grown c =
    subst (λ (ids : List ℕ). Grows c.args.h.now (along ids c.args.at.now) c.args.spots.now.items c.grow_spot.new.spots.items) (alone c.args.ids.now (omega arith)) c.grow_spot.ensures.grown

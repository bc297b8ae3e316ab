use Rattle.std.proofs.Common.{refl}
use Rattle.server_image.proofs.Boxes.{grown-last}
use Rattle.server_image.proofs.spots.grow_box.Goals as goal

pub returns-clause-grown : goal.returns-clause-grown
returns-clause-grown c = record {
  shard = refl;
  worker = refl;
  set = grown-last c.args.h.now c.laws.ensures.same c.args.at.now c.args.spot.now.set c.grow.new.self c.grow.ensures.grown;
}

use Rattle.std.proofs.{Common.{refl}, lemmas.Bool.{OnTrue_at, OnTrue_from}}
use Rattle.server_image.proofs.Boxes.{grown-last}
use Rattle.server_image.proofs.spots.keeps_box.Goals as goal

pub returns : goal.returns
returns c =
    let spot = c.args.spot.now in
    OnTrue_from c.keeps.result _ (λ yes. record {
      shard = refl;
      worker = refl;
      set = grown-last c.args.h.now c.laws.ensures.same c.args.at.now spot.set spot.set (OnTrue_at yes c.keeps.ensures);
    })

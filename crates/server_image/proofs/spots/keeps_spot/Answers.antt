use Rattle.std.proofs.lemmas.Bool.{OnTrue_at, OnTrue_from}
use Rattle.server_image.proofs.Boxes.{Grows-kept, Grows-absent}
use Rattle.server_image.proofs.spots.keeps_spot.Goals as goal

pub returns-in-Ok : goal.returns-in-Ok
returns-in-Ok c =
    let spot = c.index-spots-place.result in
    OnTrue_from c.keeps_box.result _ (λ yes. Grows-kept c.args.h.now c.args.at.now c.args.id c.args.spots.now c.in-Ok.place spot c.requires.ascending c.in-Ok.ensures.found c.index-spots-place.is (OnTrue_at yes c.keeps_box.ensures))

pub returns-in-Err : goal.returns-in-Err
returns-in-Err c = Grows-absent c.args.h.now c.args.at.now c.args.id c.args.spots.now c.in-Err.ensures.absent

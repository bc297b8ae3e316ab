use Rattle.std.proofs.{Common.{◌<◌, arith}, lemmas.List.length-append}
use Rattle.dc_node.specs.Block.{size}
use Rattle.hierarchy_split.proofs.{Crossings.{all_left, all_right}, Orders.{places_length, places_below}}
use Rattle.link_descent.proofs.divide.cut_in_two.Goals as goal

pub body_at-stays-requires-clause-few : goal.body_at-stays-requires-clause-few
body_at-stays-requires-clause-few c =
    let m = places_length (size c.args.head.now.body) _ c.requires.places in
    let n = length-append c.args.stays.now c.args.goes.now in
    omega (arith, m, n)

pub body_at-stays-requires-clause-places : goal.body_at-stays-requires-clause-places
body_at-stays-requires-clause-places c =
    let n = size c.args.head.now.body in
    all_left (λ place. place < n) c.args.stays.now c.args.goes.now (places_below n _ c.requires.places)

pub body_at-goes-requires-clause-few : goal.body_at-goes-requires-clause-few
body_at-goes-requires-clause-few c =
    let m = places_length (size c.args.head.now.body) _ c.requires.places in
    let n = length-append c.args.stays.now c.args.goes.now in
    omega (arith, m, n)

pub body_at-goes-requires-clause-places : goal.body_at-goes-requires-clause-places
body_at-goes-requires-clause-places c =
    let n = size c.args.head.now.body in
    all_right (λ place. place < n) c.args.stays.now c.args.goes.now (places_below n _ c.requires.places)

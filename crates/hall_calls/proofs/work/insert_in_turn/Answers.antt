use Rattle.std.proofs.Common.{refl, arith}
use Rattle.hall_calls.proofs.Tellings.{on-from, own-none, own-one, still-fits}
use Rattle.hall_calls.proofs.work.insert_in_turn.Goals as goal

pub loop-i-init : goal.loop-i-init
loop-i-init g c = record { same = refl; own = own-none c.args.session.now; few = omega arith }

pub insert_one-acked-requires-clause-names : goal.insert_one-acked-requires-clause-names
insert_one-acked-requires-clause-names g c κs within =
    let names = c.requires.names in
    own-one c.args.places.now.one.now c.args.places.now.other.now c.names.result.now c.loop-i.session
    (still-fits c.args.session.now c.loop-i.session c.loop-i.invariant.same names.one_each) (still-fits c.args.session.now c.loop-i.session c.loop-i.invariant.same names.other_each) c.names.ensures

pub loop-i-preserved : goal.loop-i-preserved
loop-i-preserved g c =
    let one = c.insert_one-acked.ensures in
    let before = c.loop-i.invariant in
    record { same = on-from c.args.session.now c.loop-i.session c.insert_one-acked.new.session before.same one.same; own = one.own; few = omega arith }

use Rattle.std.proofs.Common.{refl}
use Rattle.seat_steps.specs.declared.floor.Player.{Player}
use Rattle.seat_steps.proofs.Stepped.{actor-behind, left-held, made-behind, seated-behind, seen-behind, uncounted-behind}
use Rattle.seat_steps.proofs.made.make.Goals as goal

pub step-made-requires-clause-left : goal.step-made-requires-clause-left
step-made-requires-clause-left g c =
    let s = g.S.CellStep in
    left-held c.args.floor.now c.args.player.now (s.kind c.args.what) (s.sees c.args.what) (s.tells c.args.what) (s.places c.args.what) c.requires.seated c.requires.kept

pub give_all-requires : goal.give_all-requires
give_all-requires g c =
    let s = g.S.CellStep in
    let was = c.args.player.now in
    let now : Player = record { number = was.number; actor = c.step-made.new.actor; seat = c.step-made.new.seat } in
    record {
      seated = seated-behind c.args.floor.now was (s.kind c.args.what) (s.sees c.args.what) (s.tells c.args.what) (s.places c.args.what) c.requires.seated c.requires.kept c.step-made.result now refl c.step-made.ensures.holds c.step-made.ensures.went c.step-made.ensures.same;
    }

pub returns-clause-made : goal.returns-clause-made
returns-clause-made g c =
    let s = g.S.CellStep in
    let was = c.args.player.now in
    let mid : Player = record { number = was.number; actor = c.step-made.new.actor; seat = c.step-made.new.seat } in
    made-behind c.args.floor.now was mid c.give_all.new.player (s.kind c.args.what) (s.sees c.args.what) (s.tells c.args.what) (s.places c.args.what) c.step-made.result refl c.step-made.ensures.went c.give_all.ensures.gave

pub returns-clause-same_actor : goal.returns-clause-same_actor
returns-clause-same_actor g c =
    let was = c.args.player.now in
    let mid : Player = record { number = was.number; actor = c.step-made.new.actor; seat = c.step-made.new.seat } in
    actor-behind was mid c.give_all.new.player c.step-made.result c.step-made.ensures.same c.give_all.ensures.gave

pub returns-clause-same_seen : goal.returns-clause-same_seen
returns-clause-same_seen g c =
    let was = c.args.player.now in
    let mid : Player = record { number = was.number; actor = c.step-made.new.actor; seat = c.step-made.new.seat } in
    seen-behind was mid c.give_all.new.player c.step-made.result c.step-made.ensures.same c.give_all.ensures.gave

pub returns-clause-uncounted : goal.returns-clause-uncounted
returns-clause-uncounted g c =
    let was = c.args.player.now in
    let mid : Player = record { number = was.number; actor = c.step-made.new.actor; seat = c.step-made.new.seat } in
    uncounted-behind was mid c.give_all.new.player c.step-made.result c.step-made.ensures.uncounted c.give_all.ensures.gave

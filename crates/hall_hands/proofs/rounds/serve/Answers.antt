use Rattle.hall_hands.proofs.Rounding.{gone-none, gone-on, idle-still, nobody-since}
use Rattle.hall_hands.proofs.rounds.serve.Goals as goal

pub loop-init : goal.loop-init
loop-init g c = gone-none c.args.hall.now c.args.player.now c.requires.stands

pub go_round-requires-clause-stands : goal.go_round-requires-clause-stands
go_round-requires-clause-stands g c _ _ = c.loop.invariant.stands

pub go_round-requires-clause-idle : goal.go_round-requires-clause-idle
go_round-requires-clause-idle g c _ _ = idle-still c.args.hall.now c.args.player.now c.loop.player c.loop.invariant c.requires.idle

pub loop-preserved-in-Worked : goal.loop-preserved-in-Worked
loop-preserved-in-Worked g c = gone-on c.args.hall.now c.args.player.now c.loop.player c.loop.invariant c.go_round.new.player c.in-Worked.ensures.gone

pub loop-preserved : goal.loop-preserved
loop-preserved g c = gone-on c.args.hall.now c.args.player.now c.loop.player c.loop.invariant c.go_round.new.player c.in-Waits.ensures.gone

pub returns-in-Over : goal.returns-in-Over
returns-in-Over g c = record { served = nobody-since c.args.hall.now c.args.player.now c.loop.player c.loop.invariant c.go_round.new.player c.in-Over.ensures.gone }

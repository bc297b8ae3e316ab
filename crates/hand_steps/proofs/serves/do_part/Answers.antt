use Rattle.std.proofs.Common.{◌∙◌, sym}
use Rattle.hand_steps.proofs.Served.{at-none, at-part, at-start, done-since, free-since, went-since}
use Rattle.hand_steps.proofs.serves.do_part.Goals as goal

pub loop-init : goal.loop-init
loop-init g c = at-start c.args.floor.now c.args.player.now c.requires.stands

pub empty_purse-requires-clause-stands : goal.empty_purse-requires-clause-stands
empty_purse-requires-clause-stands g c = c.loop.invariant.stands

pub empty_purse-requires-clause-free : goal.empty_purse-requires-clause-free
empty_purse-requires-clause-free g c = free-since c.args.floor.now c.args.player.now c.loop.player c.loop.invariant c.requires.no_command c.requires.no_job (at-none c.loop.player (sym c.is_some.ensures ∙ c.if-not-is_some.true))

pub go_on_at_part-requires-clause-stands : goal.go_on_at_part-requires-clause-stands
go_on_at_part-requires-clause-stands g c = c.loop.invariant.stands

pub go_on_at_part-requires-clause-part : goal.go_on_at_part-requires-clause-part
go_on_at_part-requires-clause-part g c = at-part c.loop.player (sym c.is_some.ensures ∙ c.if-not-is_some.false)

pub returns-then-not-is_some : goal.returns-then-not-is_some
returns-then-not-is_some g c = record { done = done-since c.args.floor.now c.args.player.now c.loop.player c.loop.invariant c.empty_purse.new.player (at-none c.loop.player (sym c.is_some.ensures ∙ c.if-not-is_some.true)) c.empty_purse.ensures.emptied }

pub loop-preserved-in-Visit : goal.loop-preserved-in-Visit
loop-preserved-in-Visit g c = went-since c.args.floor.now c.args.player.now c.loop.player c.loop.invariant c.go_on_at_part.new.player c.go_on_at_part.ensures.went

pub loop-preserved : goal.loop-preserved
loop-preserved g c = went-since c.args.floor.now c.args.player.now c.loop.player c.loop.invariant c.go_on_at_part.new.player c.go_on_at_part.ensures.went

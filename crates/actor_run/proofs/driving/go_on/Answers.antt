use Rattle.std.proofs.Common.{sym, ◌∙◌, arith}
use Rattle.actor_run.proofs.{Everything.{spent-command, spent-few, spent-part}, Opened.{command-on, ends-since, has-open, no-part, part-on, some-part}}
use Rattle.actor_run.proofs.driving.go_on.Goals as goal

pub go_on_at_part-requires-clause-stands : goal.go_on_at_part-requires-clause-stands
go_on_at_part-requires-clause-stands g c = c.requires.command.1.stands

pub go_on_at_part-requires-clause-part : goal.go_on_at_part-requires-clause-part
go_on_at_part-requires-clause-part g c = some-part c.args.player.now (sym c.is_some.ensures ∙ c.if-is_some.true)

pub go_on_with_command-requires-clause-stands : goal.go_on_with_command-requires-clause-stands
go_on_with_command-requires-clause-stands g c = c.requires.command.1.stands

pub go_on_with_command-requires-clause-open : goal.go_on_with_command-requires-clause-open
go_on_with_command-requires-clause-open g c =
    has-open c.args.floor.now c.requires.command.0 c.args.player.now c.requires.command.1 (no-part c.args.player.now (sym c.is_some.ensures ∙ c.if-is_some.false))

pub returns-then-is_some : goal.returns-then-is_some
returns-then-is_some g c =
    let f = c.args.floor.now in
    let was = c.args.player.now in
    let now = c.go_on_at_part.new.player in
    let went = c.go_on_at_part.ensures.went in
    let costs = c.go_on_at_part.ensures.costs in
    record {
      goes = λ start is_open. part-on f start was is_open now went;
      kept = costs.kept;
      steps = λ first spent. spent-part f was now first c.args.steps.now spent c.go_on_at_part.new.steps went costs (some-part was (sym c.is_some.ensures ∙ c.if-is_some.true));
    }

pub returns-in-GoesOn : goal.returns-in-GoesOn
returns-in-GoesOn g c =
    let f = c.args.floor.now in
    let was = c.args.player.now in
    let now = c.go_on_with_command.new.player in
    let still = c.in-GoesOn.ensures.comes in
    record {
      goes = λ start is_open. command-on f start was is_open now still;
      kept = omega arith;
      steps = λ first spent. spent-command f was now first c.args.steps.now spent (no-part was (sym c.is_some.ensures ∙ c.if-is_some.false)) still;
    }

pub returns-in-Waits : goal.returns-in-Waits
returns-in-Waits g c =
    let f = c.args.floor.now in
    let was = c.args.player.now in
    let now = c.go_on_with_command.new.player in
    let still = c.in-Waits.ensures.comes in
    record {
      goes = λ start is_open. command-on f start was is_open now still;
      kept = omega arith;
      steps = λ first spent. spent-command f was now first c.args.steps.now spent (no-part was (sym c.is_some.ensures ∙ c.if-is_some.false)) still;
    }

pub returns-in-Ended : goal.returns-in-Ended
returns-in-Ended g c =
    let f = c.args.floor.now in
    let was = c.args.player.now in
    let now = c.go_on_with_command.new.player in
    let ended = c.in-Ended.ensures.comes in
    let no_part = no-part was (sym c.is_some.ensures ∙ c.if-is_some.false) in
    record {
      goes = λ start is_open. ends-since f start was is_open now c.in-Ended.end no_part ended;
      kept = omega arith;
      steps = λ first spent. spent-few f was now first c.args.steps.now spent no_part c.in-Ended.end (let low = c.count.type_inv in let same = c.count.ensures in omega (arith, low, same)) ended;
    }

use Rattle.std.proofs.Common.{◌∙◌, ◌&&◌, ap, false, not, sym, true}
use Rattle.core_pages.specs.volap_cell.specs.Steps.{history_in}
use Rattle.seeded_run.specs.{Can.can, Due.due, Machine.{about_in, phase_of, world_of}, Rests.first_open}
use Rattle.seeded_run.proofs.{Due.DueSteps.in-turn, Takings.{its-turn, orders, other-turn, own-turn}}
use Rattle.seeded_run.proofs.Takings as seen
use Rattle.seeded_run.proofs.machine.Running.step_in_turn.Goals as goal

pub returns-then-is_its_turn-clause-step : goal.returns-then-is_its_turn-clause-step
returns-then-is_its_turn-clause-step c =
    let m = c.args.self.now in
    let s = about_in m in
    let p = phase_of m in
    let w = world_of m in
    let n = c.args.number in
    in-turn m.in_order true s p w n
    (seen.in-turn m.in_order m.first (first_open p (history_in w)) n (due s p w n) (can s p w n) c.requires.held.first
    ∙ ap (λ b. b && can s p w n) (own-turn (not m.in_order) m.first n (due s p w n) (sym c.is_its_turn.ensures ∙ c.if-is_its_turn.true)))
    ∙ c.step_on_turn.ensures.step

pub returns-in-Some-clause-step : goal.returns-in-Some-clause-step
returns-in-Some-clause-step c =
    let m = c.args.self.now in
    let s = about_in m in
    let p = phase_of m in
    let w = world_of m in
    let n = c.args.number in
    in-turn m.in_order false s p w n
    (seen.in-turn m.in_order m.first (first_open p (history_in w)) n (due s p w n) (can s p w n) c.requires.held.first
    ∙ ap (λ b. b && can s p w n) (other-turn (not m.in_order) m.first c.in-Some.field-0 n (due s p w n) c.in-Some.is (sym c.is_its_turn.ensures ∙ c.if-is_its_turn.false)))

pub step_on_turn-requires-clause-turn : goal.step_on_turn-requires-clause-turn
step_on_turn-requires-clause-turn c = its-turn c.args.self.now.in_order c.args.self.now.first c.args.number (sym c.is_its_turn.ensures ∙ c.if-is_its_turn.true)

pub step_when_over-requires-clause-in_order : goal.step_when_over-requires-clause-in_order
step_when_over-requires-clause-in_order c = orders c.args.self.now.in_order c.args.self.now.first c.args.number (sym c.is_its_turn.ensures ∙ c.if-is_its_turn.false)

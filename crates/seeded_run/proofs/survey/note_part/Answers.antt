use Rattle.std.proofs.Common.{◌≡◌, ◌||◌, arith, false, get_or, set, subst, sym, true}
use Rattle.query_router.specs.Desk.{waits_for}
use Rattle.seeded_run.proofs.Surveys.{part-noted, part-skipped}
use Rattle.seeded_run.proofs.survey.note_part.Goals as goal

pub returns-then-is_waiting : goal.returns-then-is_waiting
returns-then-is_waiting c = λ w low.
    let awaited = c.args.awaited.now in
    let p = c.args.part.now in
    subst (λ k. get_or (set awaited k true) w false ≡ (waits_for w p || get_or awaited w false)) (sym c.from.ensures) (part-noted awaited p w (omega arith) (omega arith) (sym c.if-is_waiting.ensures))

pub returns-else-is_waiting : goal.returns-else-is_waiting
returns-else-is_waiting c = λ w low. part-skipped c.args.awaited.now c.args.part.now w (sym c.if-is_waiting.ensures)

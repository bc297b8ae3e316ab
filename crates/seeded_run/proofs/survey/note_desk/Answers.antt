use Rattle.std.proofs.Common.{ap, false, get_or, sym, ◌∙◌, ◌||◌}
use Rattle.seeded_run.proofs.Surveys.{none-at-all, none-waits}
use Rattle.seeded_run.proofs.survey.note_desk.Goals as goal

pub returns-in-None-clause-noted : goal.returns-in-None-clause-noted
returns-in-None-clause-noted c = λ worker low.
    let parts = c.args.desk.now.parts in
    sym (ap (λ b. b || get_or c.args.awaited.now worker false) (none-waits worker parts (none-at-all parts (sym c.first_waiting.ensures.place ∙ c.in-None.is))))

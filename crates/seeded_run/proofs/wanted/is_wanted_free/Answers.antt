use Rattle.std.proofs.Common.{◌∙◌, false, get_or, IfSome, List, option_copied, Option, subst, sym, ap}
use Rattle.core_pages.specs.volap_cell.specs.{Values.errand_of, declared.cell.Cell.Cell}
use Rattle.core_due.specs.Look.{world_by}
use Rattle.seeded_run.specs.{Survey.{MarksCarried, mark_of}, Takes.{free_by, wanted_for}, declared.survey.Survey.Survey}
use Rattle.seeded_run.proofs.Surveys.{unmarked-free, unmarked-meets}
use Rattle.seeded_run.proofs.wanted.is_wanted_free.Goals as goal

pub returns : goal.returns
returns c =
    let state = c.args.state.now in
    let h = c.args.h.now in
    let e = errand_of c.args.errand.now in
    let due = c.args.due.now in
    let seen = c.in-Some.survey.now in
    let told : MarksCarried state.actors.items seen.carried = subst (λ o. IfSome (option_copied o) (λ (x : Survey). MarksCarried state.actors.items x.carried)) c.in-Some.is c.requires.told in
    sym (unmarked-meets (wanted_for h (world_by state.cells.items) e due) (free_by state.actors.items c.args.number) (λ y. get_or seen.carried (mark_of y) false)
    (λ y unset. unmarked-free state.actors.items seen.carried c.args.number y told unset)
    (λ y is. c.may_meet.ensures c.if-not-may_meet.true h e y (ap (λ (cells : List (Option Cell)). wanted_for h (world_by cells) e due) c.deref.ensures.value ∙ is)))

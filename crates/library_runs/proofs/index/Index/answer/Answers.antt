use Rattle.std.proofs.Common.{rules, ◌≡◌, ◌∙◌, sym, ap}
use Rattle.std.specs.{Option.option_copied, Prelude.Some}
use Rattle.row_ledger.specs.declared.event.Event.TheVariants.{Answered}
use Rattle.library_runs.specs.Index.{alone}
use Rattle.library_runs.proofs.{Indexes.{answers-last, last-newest, newest-last}, index.Index.answer.Goals.{in_default-via-in-Some+in_default, in_default-via-in_default}}
use Rattle.library_runs.proofs.index.Index.answer.Goals as goal

pub returns-in-Some-Answered-clause-some : goal.returns-in-Some-Answered-clause-some
returns-in-Some-Answered-clause-some c =
    let x = c.args.self.now in
    let arm = c.in-Some-Answered in
    let newest = last-newest c.events_in.result.now (Answered arm.field-0-0 arm.agg) (sym c.last.ensures.value ∙ ap option_copied arm.is ∙ ap Some arm.field-0-is) in
    answers-last x arm.field-0-0 arm.agg newest.0 c.requires (sym (c.events_in.ensures x.hierarchy (alone x.cells)) ∙ newest.1)

pub returns-in_default-clause-none : goal.returns-in_default-clause-none
returns-in_default-clause-none c = λ none of answer past newest.
    let x = c.args.self.now in
    let last = newest-last c.events_in.result.now (Answered of answer) past (c.events_in.ensures x.hierarchy (alone x.cells) ∙ newest) in
    let at : option_copied c.last.result ≡ Some (Answered of answer) = c.last.ensures.value ∙ last in
    elim c.in_default.branch [
      | in_default-via-in-Some+in_default w ↦ search rules
      | in_default-via-in_default w ↦ search rules
    ]

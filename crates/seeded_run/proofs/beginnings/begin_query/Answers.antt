use Rattle.std.proofs.Common.{◌≡◌, true, is_none, refl, sym, ap, subst}
use Rattle.core_due.specs.core_steps.specs.Steps.{IsFurther}
use Rattle.script_form.specs.declared.script.Command.TheVariants.{Query}
use Rattle.core_pages.specs.volap_cell.specs.declared.kind.Kind.{Kind}
use Rattle.seeded_run.specs.{Commands.beginning_if, Due.are_known}
use Rattle.seeded_run.proofs.{Due.DueBegins.known-picks, Ready.BeginsReady.{begun-query, query-may}, States.core-sound}
use Rattle.seeded_run.proofs.beginnings.begin_query.Goals as goal

pub make-requires-clause-sound : goal.make-requires-clause-sound
make-requires-clause-sound c = core-sound c.args.h.now c.args.with.now c.args.state.now c.requires.core

pub make-requires-clause-may : goal.make-requires-clause-may
make-requires-clause-may c =
    query-may c.args.h.now c.args.with.now c.args.state.now c.requires.core c.args.number c.args.question.now c.requires.begins c.in_ok-filter.filter c.in_ok-filter.ensures.ok
    (known-picks _ c.in_ok-filter.filter c.filter.result c.in_ok-filter.was c.filter.ensures.unknown) c.desk_place-desk.result c.image_place-image.result c.desk_place-desk.ensures c.image_place-image.ensures

pub returns-clause-made : goal.returns-clause-made
returns-clause-made c =
    let question = c.args.question.now in
    let known : are_known c.args.h.now (Query question) ≡ true = ap is_none (known-picks _ c.in_ok-filter.filter c.filter.result c.in_ok-filter.was c.filter.ensures.unknown) in
    subst (λ (k : Kind). IsFurther c.args.h.now k c.args.number c.args.state.now c.make.new.state) (sym (ap (beginning_if (Query question)) known)) c.in_ok-make.ensures.further

pub returns-clause-begun : goal.returns-clause-begun
returns-clause-begun c =
    begun-query c.args.h.now c.args.with.now c.args.state.now c.requires.core c.args.number (Query c.args.question.now) c.requires.begins c.make.new.state c.args.question.now refl c.in_ok-filter.filter c.in_ok-filter.ensures.ok c.in_ok-make.ensures.told

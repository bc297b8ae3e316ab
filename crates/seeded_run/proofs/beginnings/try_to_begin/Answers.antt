use Rattle.std.proofs.Common.{◌≡◌, ◌∙◌, false, Err, Some, is_none, sym, ap, subst}
use Rattle.core_due.specs.core_steps.specs.Steps.{IsFurther}
use Rattle.script_run.specs.Runs.{first_unknown}
use Rattle.core_pages.specs.volap_cell.proofs.Outcomes.{on-ok}
use Rattle.core_pages.specs.volap_cell.specs.declared.kind.Kind.{Kind}
use Rattle.core_pages.specs.volap_cell.specs.declared.kind.Kind.TheVariants.{Note}
use Rattle.seeded_run.specs.{Commands.beginning_if, Due.are_known}
use Rattle.seeded_run.proofs.{Due.DueBegins.ends-noted, Ready.BeginsReady.{still-core, to-begin-still}, States.further-then}
use Rattle.seeded_run.proofs.beginnings.try_to_begin.Goals as goal

pub end_unknown-requires-clause-core : goal.end_unknown-requires-clause-core
end_unknown-requires-clause-core c = still-core c.args.h.now c.args.with.now c.args.state.now c.begin_known.new.state c.requires.core c.in-Err-Unknown.ensures.stays c.args.number c.args.command.now

pub end_unknown-requires-clause-begins : goal.end_unknown-requires-clause-begins
end_unknown-requires-clause-begins c = to-begin-still c.args.h.now c.args.with.now c.args.state.now c.begin_known.new.state c.requires.core c.in-Err-Unknown.ensures.stays c.args.number c.args.command.now c.requires.begins

pub end_unknown-requires-clause-unknown : goal.end_unknown-requires-clause-unknown
end_unknown-requires-clause-unknown c = c.begin_known.ensures.unknown c.in-Err-Unknown.dim (c.in-Err-Unknown.is ∙ ap Err c.in-Err-Unknown.field-0-is)

pub returns-in-Err-Unknown-clause-made : goal.returns-in-Err-Unknown-clause-made
returns-in-Err-Unknown-clause-made c =
    let command = c.args.command.now in
    let first : first_unknown c.args.h.now command ≡ Some c.in-Err-Unknown.dim = c.begin_known.ensures.unknown c.in-Err-Unknown.dim (c.in-Err-Unknown.is ∙ ap Err c.in-Err-Unknown.field-0-is) in
    let unknown : are_known c.args.h.now command ≡ false = ap is_none first in
    on-ok c.end_unknown.result c.end_unknown.ensures.made (λ made.
    subst (λ (k : Kind). IsFurther c.args.h.now k c.args.number c.args.state.now c.end_unknown.new.state) (sym (ap (beginning_if command) unknown ∙ ends-noted command))
    (further-then c.args.h.now Note c.args.number c.args.state.now c.begin_known.new.state c.end_unknown.new.state c.in-Err-Unknown.ensures.stays made))

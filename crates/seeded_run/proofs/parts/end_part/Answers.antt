use Rattle.std.proofs.Common.{◌∙◌, [], ap, sym, subst}
use Rattle.core_due.specs.{Look.setting_by, Ready.MayMakePart}
use Rattle.core_due.specs.core_steps.specs.{Parts.{part_kind, part_may_fail}, Steps.IsFurther}
use Rattle.core_pages.specs.volap_cell.specs.{ShardKinds.pin_of, declared.kind.Kind.Kind}
use Rattle.seeded_run.specs.Drives.{EndsPart}
use Rattle.seeded_run.proofs.{PartsMade.{ending-kind, ending-sure}, States.{made-so, of-lent}}
use Rattle.seeded_run.proofs.parts.end_part.Goals as goal

pub make-requires-clause-may : goal.make-requires-clause-may
make-requires-clause-may c =
    let h = c.args.h.now in
    let state = c.args.state.now in
    let n = c.args.number in
    let ends = of-lent state n (EndsPart h c.args.with.now state n) c.requires.may.1 _ c.in-Some.actor c.index.ensures c.in-Some.is in
    subst (MayMakePart h state n) (sym (c.end_by-step.ensures ends.0 ends.1)) ends.2

pub returns : goal.returns
returns c =
    let h = c.args.h.now in
    let state = c.args.state.now in
    let n = c.args.number in
    let s = setting_by [] c.args.with.now in
    let ends = of-lent state n (EndsPart h c.args.with.now state n) c.requires.may.1 _ c.in-Some.actor c.index.ensures c.in-Some.is in
    let pin = pin_of (ends.0).task in
    let step = c.end_by-step.ensures ends.0 ends.1 in
    subst (λ (k : Kind). IsFurther h k n state c.make.new.state) (ap part_kind step ∙ ending-kind s ends.0 pin) (made-so c.make.result _ (c.make.ensures.sure (ap part_may_fail step ∙ ending-sure s ends.0 pin)) c.make.ensures.further)

use Rattle.std.proofs.Common.{◌∷◌, [], None, Some, subst}
use Rattle.core_steps.proofs.AtTimes.{held-there, pinned-went}
use Rattle.core_steps.specs.{Parts.{part_places}, Places.{Fill, held, others_held}, declared.parts.PartStep.PartStep}
use Rattle.core_steps.proofs.parts.PartStepCellStep.run.Goals as goal

pub returns-in-FinishPinned-clause-went : goal.returns-in-FinishPinned-clause-went
returns-in-FinishPinned-clause-went c =
    let fill = subst (λ (step : PartStep). Fill (part_places step) (held c.args.first.now c.args.second.now c.args._others.now)) c.in-FinishPinned.is c.requires.fill in
    rw c.in-FinishPinned.is (rw c.lent-in-FinishPinned.ensures.value (pinned-went c.args.first.now c.finish_part-in-FinishPinned.new.gate (held-there c.in-FinishPinned.gate (Some c.in-FinishPinned.desk ∷ None ∷ None ∷ None ∷ None ∷ None ∷ []) c.args.first.now (c.args.second.now ∷ others_held c.args._others.now) fill) c.finish_part-in-FinishPinned.ensures.held c.finish_part-in-FinishPinned.ensures.made))

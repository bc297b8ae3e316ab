use Rattle.std.proofs.Common.{◌≡◌, ◌∙◌, Option, Some, None, sym, ap}
use Rattle.part_steps.proofs.parts.end_cost.Goals as goal
use Rattle.seat_steps.specs.volap_cell.specs.ShardKinds.{pin_of}

pub returns-in-Some : goal.returns-in-Some
returns-in-Some c = record {
  alone = λ r.
      let never : None ≡ Some c.in-Some.field-0 = sym (c.pin_of.ensures r.e r.errand ∙ ap pin_of r.task ∙ r.alone) ∙ c.in-Some.is in
      absurd (cc);
}

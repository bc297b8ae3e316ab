use Rattle.std.proofs.Common.{◌≡◌, Some}
use Rattle.core_due.specs.Splits.{split_of}
use Rattle.core_due.specs.core_steps.specs.declared.jobs.JobStep.{JobStep}
use Rattle.seeded_run.proofs.{GivesWay.two-spares, States.of-lent}
use Rattle.core_pages.specs.volap_cell.specs.Values.{actor_of}
use Rattle.seeded_run.proofs.works.split_end.Goals as goal

pub split_of-requires : goal.split_of-requires
split_of-requires c =
    let k = of-lent c.args.state.now c.args.number (λ a. (step : JobStep) × (split_of c.args.map c.args.gate a.purse ≡ Some step)) c.requires.found c.index_mut.result.now c.lent.result.now c.index_mut.ensures.value c.lent.ensures.value in
    record { two = two-spares c.args.map c.args.gate (actor_of c.lent.result.now).purse k.0 k.1 }

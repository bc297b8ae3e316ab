use Rattle.dim_hierarchy.specs.declared.hierarchy.Hierarchy.{Hierarchy}
use Rattle.threaded_run.proofs.Opened.{are-phased, none-begun, script-hall}
use Rattle.hall_hands.specs.whole_steps.proofs.Telling.{if-ok-on}
use Rattle.threaded_run.proofs.opening.open.Goals as goal

pub open-requires : goal.open-requires
open-requires c = record {
  fits = script-hall c.args.hierarchy c.args.with c.in_ok-roles.roles c.in_ok-roles.ensures.value c.requires.settings c.requires.hierarchy c.requires.dims;
}

pub returns-clause-phased : goal.returns-clause-phased
returns-clause-phased c = if-ok-on c.open.result c.open.ensures.opened (λ r opened. are-phased c.args.hierarchy c.args.with c.in_ok-roles.roles c.in_ok-roles.ensures.value r.0 r.1 opened)

pub returns-clause-through : goal.returns-clause-through
returns-clause-through c =
    if-ok-on c.open.result c.open.ensures.opened
    (λ r opened. none-begun c.args.hierarchy c.args.with c.in_ok-roles.roles c.in_ok-roles.ensures.value r.0 r.1 opened c.phases_begin_and_end.ensures.opening)

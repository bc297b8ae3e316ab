use Rattle.std.proofs.Common.{List, subst, sym}
use Rattle.core_pages.specs.volap_cell.specs.{Filling.setting_for, Numbering.IsSetting, declared.role.Role.Role}
use Rattle.script_roles.proofs.Roles.{opens}
use Rattle.seeded_run.proofs.Openings.{opened-between, opened-core, opened-roles, opened-so}
use Rattle.seeded_run.proofs.opening.open_core.Goals as goal

pub open-requires : goal.open-requires
open-requires c = record {
  setting = subst (λ (roles : List Role). IsSetting (setting_for c.args.h.now c.args.with.now roles)) (sym c.in_ok-roles.ensures.value) (opens c.args.with.now c.args.h.now c.requires);
}

pub returns-clause-core : goal.returns-clause-core
returns-clause-core c =
    opened-core c.args.h.now c.args.with.now c.in_ok-roles.roles c.in_ok-roles.ensures.value c.in_ok-state.state.cells.items c.in_ok-state.state.actors.items c.in_ok-state.ensures
    c.in_ok-roles.ensures.few

pub returns-clause-roles : goal.returns-clause-roles
returns-clause-roles c =
    opened-roles c.args.h.now c.args.with.now c.in_ok-roles.roles c.in_ok-roles.ensures.value c.in_ok-state.state.cells.items c.in_ok-state.state.actors.items c.in_ok-state.ensures

pub returns-clause-between : goal.returns-clause-between
returns-clause-between c =
    opened-between c.args.h.now c.args.with.now c.in_ok-roles.roles c.in_ok-roles.ensures.value c.in_ok-state.state.cells.items c.in_ok-state.state.actors.items c.in_ok-state.ensures
    c.phases_begin_and_end.ensures.opening

pub returns-clause-opening : goal.returns-clause-opening
returns-clause-opening c =
    opened-so c.args.h.now c.args.with.now c.in_ok-roles.roles c.in_ok-roles.ensures.value c.in_ok-state.state.cells.items c.in_ok-state.state.actors.items c.in_ok-state.ensures

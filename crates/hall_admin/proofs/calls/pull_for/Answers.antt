use Rattle.std.proofs.Common.{◌∙◌, subst}
use Rattle.hall_admin.proofs.Keeping.{caller-stands, puller-can, refused-later, stays-before, stays-done, stays-unmade, sync-nothing}
use Rattle.row_ledger.specs.declared.settings.{Call.TheVariants.Sync, How.TheVariants.{Fine, NoMemory}}
use Rattle.actor_run.specs.Called.{NotCalled}
use Rattle.hall_admin.specs.Callers.{StaysCaller}
use Rattle.job_steps.specs.volap_cell.specs.declared.role.Role.TheVariants.{Puller}
use Rattle.hall_admin.proofs.calls.pull_for.Goals as goal

pub sync-requires : goal.sync-requires
sync-requires g c = record {
  stands = caller-stands c.args.floor.now Puller c.args.player.now c.requires.puller;
  begins = puller-can c.args.floor.now c.args.player.now c.args.server c.requires.puller c.requires.server;
}

pub refuse-requires : goal.refuse-requires
refuse-requires g c = record { caller = (Puller, (stays-before c.args.floor.now Puller c.args.player.now c.requires.puller c.sync.new.player c.in-NotBegun.ensures.synced).caller) }

pub returns-in-Ok : goal.returns-in-Ok
returns-in-Ok g c =
    let stays =
    stays-done c.args.floor.now Puller c.args.player.now c.requires.puller c.in-Ok.field-0 (Sync c.args.server) Fine c.sync.new.player c.in-Ok.ensures.synced
    (c.sync.ensures.purse ∙ c.requires.puller.pass.idle.purse) in
    record { ends = record { caller = stays.caller; number = stays.number; heard = stays.heard; ends = stays.ends } }

pub returns-in-Failed : goal.returns-in-Failed
returns-in-Failed g c =
    let stays =
    stays-done c.args.floor.now Puller c.args.player.now c.requires.puller c.in-Failed.field-0 (Sync c.args.server) NoMemory c.sync.new.player c.in-Failed.ensures.synced
    (c.sync.ensures.purse ∙ c.requires.puller.pass.idle.purse) in
    record { ends = record { caller = stays.caller; number = stays.number; heard = stays.heard; ends = stays.ends } }

pub returns-in_err-refuse-in-NotBegun : goal.returns-in_err-refuse-in-NotBegun
returns-in_err-refuse-in-NotBegun g c =
    let f = c.args.floor.now in
    let was = c.args.player.now in
    let mid = c.sync.new.player in
    let now = c.refuse.new.player in
    let before = stays-before f Puller was c.requires.puller mid c.in-NotBegun.ensures.synced in
    let did = refused-later c.refuse.result f Puller was mid now before (c.refuse.ensures.refused Puller before.caller) in
    record { ends = sync-nothing f Puller was now c.from_residual.result c.from_residual.ensures.0 c.args.server (subst (λ r. StaysCaller f Puller (NotCalled was.number r) was now) c.in_err-refuse-in-NotBegun.was did) }

pub returns-in_ok-refuse-in-NotBegun : goal.returns-in_ok-refuse-in-NotBegun
returns-in_ok-refuse-in-NotBegun g c =
    let f = c.args.floor.now in
    let was = c.args.player.now in
    let mid = c.sync.new.player in
    let now = c.refuse.new.player in
    let before = stays-before f Puller was c.requires.puller mid c.in-NotBegun.ensures.synced in
    let did = refused-later c.refuse.result f Puller was mid now before (c.refuse.ensures.refused Puller before.caller) in
    let unmade = stays-unmade f Puller was now (Sync c.args.server) (subst (λ r. StaysCaller f Puller (NotCalled was.number r) was now) c.in_ok-refuse-in-NotBegun.was did) in
    record { ends = record { caller = unmade.caller; number = unmade.number; heard = unmade.heard; ends = unmade.ends } }

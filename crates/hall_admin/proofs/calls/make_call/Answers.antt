use Rattle.std.proofs.Common.{refl, subst}
use Rattle.hall_admin.proofs.{Keeping.{admin-can, call-nothing, caller-stands, refused-later, stays-admin, stays-before, stays-unmade}, OpenJobs.job-begun, Reusing.{ended-on, stays-on}}
use Rattle.actor_run.specs.Called.{NotCalled}
use Rattle.hall_admin.specs.Callers.{StaysCaller}
use Rattle.job_steps.specs.volap_cell.specs.declared.role.Role.TheVariants.{Admin}
use Rattle.hall_admin.proofs.calls.make_call.Goals as goal

pub reuse_released-requires : goal.reuse_released-requires
reuse_released-requires g c = record { admin = c.requires.admin }

pub begin_call-requires : goal.begin_call-requires
begin_call-requires g c =
    let f = c.args.floor.now in
    let was = c.reuse_released.new.player in
    let caller = c.reuse_released.ensures.stays.caller in
    record {
      stands = caller-stands f Admin was caller;
      begins = admin-can f was c.args.call.now caller c.requires.job;
    }

pub drive-requires : goal.drive-requires
drive-requires g c =
    let f = c.args.floor.now in
    let was = c.reuse_released.new.player in
    let mid = c.begin_call.new.player in
    record { opened = (c.in-Ok.field-0, c.args.call.now, was, job-begun f c.in-Ok.field-0 c.args.call.now was mid c.reuse_released.ensures.stays.caller c.requires.job c.in-Ok.ensures.begun) }

pub refuse-requires : goal.refuse-requires
refuse-requires g c =
    let was = c.reuse_released.new.player in
    record { caller = (Admin, (stays-before c.args.floor.now Admin was c.reuse_released.ensures.stays.caller c.begin_call.new.player c.in-Err.ensures.same).caller) }

pub returns-in-Ok : goal.returns-in-Ok
returns-in-Ok g c =
    let f = c.args.floor.now in
    let call = c.args.call.now in
    let reused = c.reuse_released.ensures.stays in
    let was = c.reuse_released.new.player in
    let now = c.drive.new.player in
    let begun = job-begun f c.in-Ok.field-0 call was c.begin_call.new.player reused.caller c.requires.job c.in-Ok.ensures.begun in
    let done = c.drive.ensures.done c.in-Ok.field-0 call was begun in
    let stays = ended-on f Admin c.args.player.now was now reused call c.drive.result (stays-admin f Admin was reused.caller c.in-Ok.field-0 call c.drive.result now done refl) in
    record { ends = record { caller = stays.caller; number = stays.number; heard = stays.heard; ends = stays.ends } }

pub returns-in_err-refuse-in-Err : goal.returns-in_err-refuse-in-Err
returns-in_err-refuse-in-Err g c =
    let f = c.args.floor.now in
    let was = c.args.player.now in
    let reused = c.reuse_released.ensures.stays in
    let mid = c.begin_call.new.player in
    let now = c.refuse.new.player in
    let before = stays-on f Admin was c.reuse_released.new.player mid reused (stays-before f Admin c.reuse_released.new.player reused.caller mid c.in-Err.ensures.same) in
    let did = refused-later c.refuse.result f Admin was mid now before (c.refuse.ensures.refused Admin before.caller) in
    record { ends = call-nothing f Admin was now c.from_residual.result c.from_residual.ensures.0 c.args.call.now (subst (λ r. StaysCaller f Admin (NotCalled was.number r) was now) c.in_err-refuse-in-Err.was did) }

pub returns-in_ok-refuse-in-Err : goal.returns-in_ok-refuse-in-Err
returns-in_ok-refuse-in-Err g c =
    let f = c.args.floor.now in
    let was = c.args.player.now in
    let reused = c.reuse_released.ensures.stays in
    let mid = c.begin_call.new.player in
    let now = c.refuse.new.player in
    let before = stays-on f Admin was c.reuse_released.new.player mid reused (stays-before f Admin c.reuse_released.new.player reused.caller mid c.in-Err.ensures.same) in
    let did = refused-later c.refuse.result f Admin was mid now before (c.refuse.ensures.refused Admin before.caller) in
    let unmade = stays-unmade f Admin was now c.args.call.now (subst (λ r. StaysCaller f Admin (NotCalled was.number r) was now) c.in_ok-refuse-in-Err.was did) in
    record { ends = record { caller = unmade.caller; number = unmade.number; heard = unmade.heard; ends = unmade.ends } }

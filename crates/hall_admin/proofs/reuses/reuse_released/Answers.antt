use Rattle.hall_admin.proofs.Keeping.{caller-stands, stays-before}
use Rattle.hall_admin.proofs.Reusing.{caller-between, stays-on, stays-reused, stays-self}
use Rattle.job_steps.specs.volap_cell.specs.declared.role.Role.TheVariants.{Admin}
use Rattle.hall_admin.proofs.reuses.reuse_released.Goals as goal

pub loop-init : goal.loop-init
loop-init g c = stays-self c.args.floor.now c.args.player.now c.requires.admin

pub reuse_cell-requires : goal.reuse_cell-requires
reuse_cell-requires g c =
    let f = c.args.floor.now in
    let p = c.loop.player in
    let caller = c.loop.invariant.caller in
    record { stands = caller-stands f Admin p caller; between = caller-between f p caller }

pub loop-preserved : goal.loop-preserved
loop-preserved g c =
    let f = c.args.floor.now in
    let p = c.loop.player in
    let so_far = c.loop.invariant in
    let now = c.reuse_cell.new.player in
    stays-on f Admin c.args.player.now p now so_far (stays-reused f p so_far.caller c.in-Some-reuse_cell.field-0 now c.in-Some-reuse_cell.ensures.some)

pub returns-in-None-reuse_cell-clause-stays : goal.returns-in-None-reuse_cell-clause-stays
returns-in-None-reuse_cell-clause-stays g c =
    let f = c.args.floor.now in
    let p = c.loop.player in
    let so_far = c.loop.invariant in
    let now = c.reuse_cell.new.player in
    stays-on f Admin c.args.player.now p now so_far (stays-before f Admin p so_far.caller now c.in-None-reuse_cell.ensures.none)

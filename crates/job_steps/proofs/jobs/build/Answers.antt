use Rattle.std.proofs.Common.{◌∷◌, [], Some, refl, sym, subst}
use Rattle.seat_steps.specs.core_steps.specs.declared.jobs.JobStep.TheVariants as job
use Rattle.job_steps.proofs.{Arms.held-at, Dues.{IsOpenAt, build-step-due, open-at}, Made.{first-within, goes-since, opened-since}}
use Rattle.job_steps.specs.Dues.{IsToBuild}
use Rattle.seat_steps.proofs.Since.{unchanged}
use Rattle.seat_steps.specs.volap_cell.specs.Values.{ActorValue}
use Rattle.seat_steps.specs.volap_turns.proofs.Turned.{when-ok}
use Rattle.job_steps.proofs.jobs.build.Goals as goal

pub take_first-requires-clause-no_part : goal.take_first-requires-clause-no_part
take_first-requires-clause-no_part g c = c.requires.at.opened.no_part

pub take_first-requires-clause-cell : goal.take_first-requires-clause-cell
take_first-requires-clause-cell g c =
    let f = c.args.floor.now in
    let p = c.args.player.now in
    let laws = c.works_can_be_made.ensures in
    first-within f p c.requires.stands.seated (job.BuildBlock c.args.cell) (build-step-due laws.asked laws.prepared f p (open-at c.requires.at) c.args.cell c.requires.builds) c.args.cell [] refl

pub make_job-requires-clause-opened : goal.make_job-requires-clause-opened
make_job-requires-clause-opened g c = opened-since (unchanged c.take_first.ensures.took.same) c.requires.at.opened

pub make_job-requires-clause-due : goal.make_job-requires-clause-due
make_job-requires-clause-due g c =
    let f = c.args.floor.now in
    let laws = c.works_can_be_made.ensures in
    let same = unchanged c.take_first.ensures.took.same in
    build-step-due laws.asked laws.prepared f c.take_first.new.player (subst (IsOpenAt f) (sym same.actor) (open-at c.requires.at)) c.args.cell (subst (λ (a : ActorValue). IsToBuild a c.args.cell) (sym same.actor) c.requires.builds)

pub make_job-requires-clause-at : goal.make_job-requires-clause-at
make_job-requires-clause-at g c =
    held-at c.args.floor.now c.take_first.new.player c.take_first.ensures.seated (job.BuildBlock c.args.cell) (make_job-requires-clause-due g c) ((c.args.cell, Some 3) ∷ []) c.take_first.ensures.ranks refl

pub returns : goal.returns
returns g c = record { came = goes-since c.args.floor.now (unchanged c.take_first.ensures.took.same) (when-ok c.make_job.result c.make_job.ensures.went (c.make_job.ensures.sure refl)) }

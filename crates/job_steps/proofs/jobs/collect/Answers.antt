use Rattle.std.proofs.Common.{◌∙◌, ◌∷◌, [], Some, refl, sym, subst}
use Rattle.seat_steps.specs.core_steps.specs.declared.jobs.JobStep.TheVariants as job
use Rattle.job_steps.proofs.{Arms.held-at, Dues.{IsOpenAt, block-due, collect-instead, open-at}, Made.{first-within, opened-since}}
use Rattle.job_steps.specs.Dues.{IsToCollect}
use Rattle.seat_steps.proofs.Since.{unchanged}
use Rattle.seat_steps.specs.volap_cell.specs.Values.{ActorValue}
use Rattle.job_steps.proofs.jobs.collect.Goals as goal

pub take_first-requires-clause-no_part : goal.take_first-requires-clause-no_part
take_first-requires-clause-no_part g c = c.requires.at.opened.no_part

pub take_first-requires-clause-cell : goal.take_first-requires-clause-cell
take_first-requires-clause-cell g c =
    let f = c.args.floor.now in
    let p = c.args.player.now in
    let laws = c.works_can_be_made.ensures in
    first-within f p c.requires.stands.seated (job.CollectBlock c.in-Some.block) (block-due laws.asked laws.prepared f p (open-at c.requires.at) c.args.noted c.args.gate c.args.queued c.requires.collects c.in-Some.block c.in-Some.is) c.in-Some.block [] refl

pub make_or_give_up-requires-clause-opened : goal.make_or_give_up-requires-clause-opened
make_or_give_up-requires-clause-opened g c = opened-since (unchanged c.take_first.ensures.took.same) c.requires.at.opened

pub make_or_give_up-requires-clause-due : goal.make_or_give_up-requires-clause-due
make_or_give_up-requires-clause-due g c =
    let f = c.args.floor.now in
    let laws = c.works_can_be_made.ensures in
    let same = unchanged c.take_first.ensures.took.same in
    block-due laws.asked laws.prepared f c.take_first.new.player (subst (IsOpenAt f) (sym same.actor) (open-at c.requires.at)) c.args.noted c.args.gate c.args.queued
    (subst (λ (a : ActorValue). IsToCollect a c.args.noted c.args.gate c.args.queued) (sym same.actor) c.requires.collects) c.in-Some.block c.in-Some.is

pub make_or_give_up-requires-clause-at : goal.make_or_give_up-requires-clause-at
make_or_give_up-requires-clause-at g c =
    held-at c.args.floor.now c.take_first.new.player c.take_first.ensures.seated (job.CollectBlock c.in-Some.block) (make_or_give_up-requires-clause-due g c) ((c.in-Some.block, Some 3) ∷ []) c.take_first.ensures.ranks refl

pub make_or_give_up-requires-clause-instead : goal.make_or_give_up-requires-clause-instead
make_or_give_up-requires-clause-instead g c q number actor =
    let f = c.args.floor.now in
    let laws = c.works_can_be_made.ensures in
    let same = actor ∙ (unchanged c.take_first.ensures.took.same).actor in
    collect-instead laws.asked laws.prepared f q (subst (IsOpenAt f) (sym same) (open-at c.requires.at)) c.args.noted c.args.gate c.args.queued
    (subst (λ (a : ActorValue). IsToCollect a c.args.noted c.args.gate c.args.queued) (sym same) c.requires.collects)

pub returns : goal.returns
returns g c = record { came = c.make_or_give_up.ensures.came c.args.player.now (unchanged c.take_first.ensures.took.same) c.requires.at.opened }

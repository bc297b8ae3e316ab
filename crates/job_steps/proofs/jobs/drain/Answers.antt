use Rattle.std.proofs.Common.{◌∙◌, [], ◌∷◌, Some, refl, sym, ap, subst}
use Rattle.seat_steps.specs.core_steps.specs.declared.jobs.JobStep.TheVariants as job
use Rattle.job_steps.proofs.{Arms.{gave-back, held-at}, Dues.{IsOpenAt, drain-due, gate-in, open-at}, Made.{goes-since, opened-since}}
use Rattle.job_steps.specs.Dues.{IsJobDue, IsToDrain}
use Rattle.seat_steps.proofs.{Around.around, Since.{looked, unchanged}, WithLedger.first-there}
use Rattle.seat_steps.specs.{Floors.IsSeated, declared.floor.Player.Player}
use Rattle.seat_steps.specs.volap_cell.specs.Values.{ActorValue, IsFrozen}
use Rattle.seat_steps.specs.volap_turns.proofs.Turned.{when-ok}
use Rattle.job_steps.proofs.jobs.drain.Goals as goal

pub take_first-requires-clause-no_part : goal.take_first-requires-clause-no_part
take_first-requires-clause-no_part g c = c.requires.at.opened.no_part

pub take_first-requires-clause-cell : goal.take_first-requires-clause-cell
take_first-requires-clause-cell g c =
    let f = c.args.floor.now in
    let p = c.args.player.now in
    let laws = c.works_can_be_made.ensures in
    let k = around f p c.requires.stands.seated in
    let x = c.requires.frozen in
    gate-in laws.asked laws.prepared f p (open-at c.requires.at) k.0 k.1 k.2 x.job (IsFrozen x.frozen) x.has x.frozen refl c.args.gate (sym x.gate_is)

pub is_drained_at-requires-clause-held : goal.is_drained_at-requires-clause-held
is_drained_at-requires-clause-held g c = first-there c.args.floor.now c.take_first.new.player c.take_first.ensures.seated c.args.gate 2 [] c.take_first.ensures.ranks

pub returns-then-not-is_drained_at : goal.returns-then-not-is_drained_at
returns-then-not-is_drained_at g c =
    record { came = gave-back c.args.floor.now (looked (unchanged c.take_first.ensures.took.same) c.is_drained_at.ensures.same) c.give_all.ensures.stands c.give_all.ensures.gave }

pub make_job-requires-clause-seated : goal.make_job-requires-clause-seated
make_job-requires-clause-seated g c = subst (IsSeated c.args.floor.now) (sym c.is_drained_at.ensures.same) c.take_first.ensures.seated

pub make_job-requires-clause-opened : goal.make_job-requires-clause-opened
make_job-requires-clause-opened g c = opened-since (looked (unchanged c.take_first.ensures.took.same) c.is_drained_at.ensures.same) c.requires.at.opened

pub make_job-requires-clause-due : goal.make_job-requires-clause-due
make_job-requires-clause-due g c =
    let f = c.args.floor.now in
    let q = c.take_first.new.player in
    let laws = c.works_can_be_made.ensures in
    let same = unchanged c.take_first.ensures.took.same in
    let there = first-there f q c.take_first.ensures.seated c.args.gate 2 [] c.take_first.ensures.ranks in
    subst (λ (p : Player). IsJobDue f p (job.Drained c.args.gate)) (sym c.is_drained_at.ensures.same)
    (drain-due laws.asked laws.prepared f q (subst (IsOpenAt f) (sym same.actor) (open-at c.requires.at)) c.args.gate (subst (λ (a : ActorValue). IsToDrain a c.args.gate) (sym same.actor) c.requires.frozen)
    there (λ d e. sym (c.is_drained_at.ensures.seen d e) ∙ c.if-not-is_drained_at.false))

pub make_job-requires-clause-at : goal.make_job-requires-clause-at
make_job-requires-clause-at g c =
    let f = c.args.floor.now in
    let q = c.is_drained_at.new.player in
    let seated = subst (IsSeated f) (sym c.is_drained_at.ensures.same) c.take_first.ensures.seated in
    held-at f q seated (job.Drained c.args.gate) (make_job-requires-clause-due g c) ((c.args.gate, Some 2) ∷ []) (ap (λ (p : Player). p.seat.ranks) c.is_drained_at.ensures.same ∙ c.take_first.ensures.ranks) refl

pub returns : goal.returns
returns g c =
    let went = when-ok c.make_job.result c.make_job.ensures.went (c.make_job.ensures.sure refl) in
    record { came = goes-since c.args.floor.now (looked (unchanged c.take_first.ensures.took.same) c.is_drained_at.ensures.same) went }

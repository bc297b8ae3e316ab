use Rattle.std.proofs.Common.{◌∙◌, [], sym, ap, subst}
use Rattle.job_steps.proofs.{Arms.gave-back, Dues.{freeze-table, open-at}, Made.at-since}
use Rattle.job_steps.specs.Dues.{IsToFreeze, LeadsTo}
use Rattle.seat_steps.proofs.{Since.{looked, unchanged}, WithLedger.first-there}
use Rattle.seat_steps.specs.{Floors.IsSeated, declared.{floor.Player.Player, looks.Lead.TheVariants.Gate}}
use Rattle.seat_steps.specs.volap_cell.specs.Values.{ActorValue}
use Rattle.job_steps.proofs.jobs.freeze.Goals as goal

pub take_first-requires-clause-no_part : goal.take_first-requires-clause-no_part
take_first-requires-clause-no_part g c = c.requires.at.opened.no_part

pub take_first-requires-clause-cell : goal.take_first-requires-clause-cell
take_first-requires-clause-cell g c =
    let laws = c.works_can_be_made.ensures in
    freeze-table laws.asked laws.prepared c.args.floor.now c.args.player.now (open-at c.requires.at) c.args.map c.args.shard c.requires.called laws.kind c.requires.stands.seated

pub lead_at-requires-clause-held : goal.lead_at-requires-clause-held
lead_at-requires-clause-held g c = first-there c.args.floor.now c.take_first.new.player c.take_first.ensures.seated c.args.map 1 [] c.take_first.ensures.ranks

pub freeze_at-requires-clause-seated : goal.freeze_at-requires-clause-seated
freeze_at-requires-clause-seated g c = subst (IsSeated c.args.floor.now) (sym c.lead_at.ensures.same) c.take_first.ensures.seated

pub freeze_at-requires-clause-at : goal.freeze_at-requires-clause-at
freeze_at-requires-clause-at g c = at-since (looked (unchanged c.take_first.ensures.took.same) c.lead_at.ensures.same) c.requires.at

pub freeze_at-requires-clause-called : goal.freeze_at-requires-clause-called
freeze_at-requires-clause-called g c = subst (λ (a : ActorValue). IsToFreeze c.args.floor.now a c.args.map c.args.shard) (sym (looked (unchanged c.take_first.ensures.took.same) c.lead_at.ensures.same).actor) c.requires.called

pub freeze_at-requires-clause-held : goal.freeze_at-requires-clause-held
freeze_at-requires-clause-held g c = ap (λ (p : Player). p.seat.ranks) c.lead_at.ensures.same ∙ c.take_first.ensures.ranks

pub freeze_at-requires-clause-led : goal.freeze_at-requires-clause-led
freeze_at-requires-clause-led g c =
    let there = first-there c.args.floor.now c.take_first.new.player c.take_first.ensures.seated c.args.map 1 [] c.take_first.ensures.ranks in
    subst (λ (p : Player). LeadsTo p c.args.map c.args.shard (Gate c.in-Gate.gate)) (sym c.lead_at.ensures.same) (record { there = there; leads = λ d e. sym c.in-Gate.is ∙ c.lead_at.ensures.seen d e })

pub returns-in-Gate : goal.returns-in-Gate
returns-in-Gate g c = record { came = c.freeze_at.ensures.came c.args.player.now (looked (unchanged c.take_first.ensures.took.same) c.lead_at.ensures.same) c.requires.at.opened }

pub returns-in_default : goal.returns-in_default
returns-in_default g c =
    record { came = gave-back c.args.floor.now (looked (unchanged c.take_first.ensures.took.same) c.lead_at.ensures.same) c.give_all.ensures.stands c.give_all.ensures.gave }

use Rattle.std.proofs.Common.{◌∙◌, ℕ, ◌<◌, [], ◌∷◌, refl, sym, ap, subst, arith}
use Rattle.seat_steps.specs.core_steps.specs.{Places.two_at, declared.jobs.JobStep.TheVariants.Postpone}
use Rattle.job_steps.proofs.Made.{first-within, gave-up, job-kept}
use Rattle.job_steps.specs.{Jobs.CameTo, declared.steps.JobDid.JobDid}
use Rattle.seat_steps.proofs.{Since.{unchanged, unchanged-on}, WithLedger.up-one}
use Rattle.seat_steps.specs.Booked.{IsUpToLedger}
use Rattle.turn_table.specs.Seat.{cell_count}
use Rattle.seat_steps.specs.volap_cell.specs.{Setting.ledger_cell, Values.ActorValue}
use Rattle.seat_steps.specs.volap_turns.proofs.Turned.{when-ok}
use Rattle.job_steps.proofs.steps.give_up.Goals as goal

pub take_first-requires-clause-cell : goal.take_first-requires-clause-cell
take_first-requires-clause-cell g c =
    let p = c.args.player.now in
    subst (λ (k : ℕ). k < cell_count c.args.floor.now.table) (sym c.stock_place.ensures) (first-within c.args.floor.now p c.requires.stands.seated Postpone (c.requires.due p refl refl) _ (ledger_cell ∷ []) refl)

pub make_booked-requires-clause-held : goal.make_booked-requires-clause-held
make_booked-requires-clause-held g c =
    let p = c.take_first.new.player in
    subst (λ (y : ℕ). IsUpToLedger p (two_at y ledger_cell)) c.stock_place.ensures (up-one p c.stock_place.result 7 (omega arith) c.take_first.ensures.ranks)

pub make_booked-requires-clause-due : goal.make_booked-requires-clause-due
make_booked-requires-clause-due g c = (let same = unchanged c.take_first.ensures.took.same in c.requires.due c.take_first.new.player same.number same.actor)

pub make_booked-requires-clause-kept : goal.make_booked-requires-clause-kept
make_booked-requires-clause-kept g c q same =
    job-kept c.args.floor.now.hierarchy q Postpone (ap (λ (a : ActorValue). a.errand) (same ∙ (unchanged c.take_first.ensures.took.same).actor) ∙ c.requires.opened.no_part)

pub returns : goal.returns
returns g c =
    let f = c.args.floor.now in
    let booked = when-ok c.make_booked.result c.make_booked.ensures.booked (c.make_booked.ensures.sure refl) in
    record {
      came = λ p same has. subst (λ (r : JobDid). CameTo f r p c.make_booked.new.player) (sym c.over.ensures) (gave-up p (unchanged-on same (unchanged c.take_first.ensures.took.same)) has booked);
    }

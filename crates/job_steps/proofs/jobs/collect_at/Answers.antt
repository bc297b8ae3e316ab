use Rattle.std.proofs.Common.{◌≡◌, ◌∙◌, ◌∷◌, [], ℕ, None, Some, Bool, true, false, refl, sym, ap, subst}
use Rattle.seat_steps.specs.core_due.specs.Works.{collect_by}
use Rattle.seat_steps.specs.core_steps.specs.{Jobs.job_places, Places.numbers, declared.jobs.JobStep.JobStep}
use Rattle.job_steps.proofs.{Arms.held-at, Dues.{IsOpenAt, at-gate-due, collect-instead, gate-in, open-at}, Made.opened-since}
use Rattle.job_steps.specs.Dues.{IsJobDue, IsQuiet, IsToCollect}
use Rattle.seat_steps.proofs.{Around.around, Since.{looked, unchanged}, WithLedger.first-there}
use Rattle.seat_steps.specs.{Floors.IsSeated, declared.floor.Player.Player}
use Rattle.seat_steps.specs.volap_cell.specs.Values.{ActorValue, Collects}
use Rattle.job_steps.proofs.jobs.collect_at.Goals as goal

pub take_first-requires-clause-no_part : goal.take_first-requires-clause-no_part
take_first-requires-clause-no_part g c = c.requires.at.opened.no_part

pub take_first-requires-clause-cell : goal.take_first-requires-clause-cell
take_first-requires-clause-cell g c =
    let f = c.args.floor.now in
    let p = c.args.player.now in
    let laws = c.works_can_be_made.ensures in
    let k = around f p c.requires.stands.seated in
    let x = c.requires.collects in
    gate-in laws.asked laws.prepared f p (open-at c.requires.at) k.0 k.1 k.2 x.job (Collects x.collecting) x.has x.collecting.frozen refl c.args.gate (sym x.gate_is)

pub has_more_at-requires-clause-held : goal.has_more_at-requires-clause-held
has_more_at-requires-clause-held g c = first-there c.args.floor.now c.take_first.new.player c.take_first.ensures.seated c.args.gate 2 [] c.take_first.ensures.ranks

-- either step is of the gate alone, and no action is over by it

quiet : (gate : ℕ) (more : Bool) → IsQuiet (collect_by gate None more)
quiet gate true = tt
quiet gate false = tt

one-cell : (gate : ℕ) (more : Bool) → gate ∷ [] ≡ numbers (job_places (collect_by gate None more))
one-cell gate true = refl
one-cell gate false = refl

pub make_or_give_up-requires-clause-quiet : goal.make_or_give_up-requires-clause-quiet
make_or_give_up-requires-clause-quiet g c = subst IsQuiet (sym c.next_at-step.ensures) (quiet c.args.gate c.has_more_at.result)

pub make_or_give_up-requires-clause-seated : goal.make_or_give_up-requires-clause-seated
make_or_give_up-requires-clause-seated g c = subst (IsSeated c.args.floor.now) (sym c.has_more_at.ensures.same) c.take_first.ensures.seated

pub make_or_give_up-requires-clause-opened : goal.make_or_give_up-requires-clause-opened
make_or_give_up-requires-clause-opened g c = opened-since (looked (unchanged c.take_first.ensures.took.same) c.has_more_at.ensures.same) c.requires.at.opened

pub make_or_give_up-requires-clause-due : goal.make_or_give_up-requires-clause-due
make_or_give_up-requires-clause-due g c =
    let f = c.args.floor.now in
    let q = c.take_first.new.player in
    let laws = c.works_can_be_made.ensures in
    let same = unchanged c.take_first.ensures.took.same in
    let there = first-there f q c.take_first.ensures.seated c.args.gate 2 [] c.take_first.ensures.ranks in
    let due = at-gate-due laws.asked laws.prepared f q (subst (IsOpenAt f) (sym same.actor) (open-at c.requires.at)) None c.args.gate c.args.queued
    (subst (λ (a : ActorValue). IsToCollect a None c.args.gate c.args.queued) (sym same.actor) c.requires.collects) refl there c.has_more_at.result c.has_more_at.ensures.seen in
    subst (λ (x : Player × JobStep). IsJobDue f x.0 x.1) (λ j. (sym c.has_more_at.ensures.same j, sym c.next_at-step.ensures j)) due

pub make_or_give_up-requires-clause-at : goal.make_or_give_up-requires-clause-at
make_or_give_up-requires-clause-at g c =
    let f = c.args.floor.now in
    let q = c.has_more_at.new.player in
    let seated = subst (IsSeated f) (sym c.has_more_at.ensures.same) c.take_first.ensures.seated in
    held-at f q seated c.next_at-step.result (make_or_give_up-requires-clause-due g c) ((c.args.gate, Some 2) ∷ []) (ap (λ (p : Player). p.seat.ranks) c.has_more_at.ensures.same ∙ c.take_first.ensures.ranks)
    (one-cell c.args.gate c.has_more_at.result ∙ ap (λ (x : JobStep). numbers (job_places x)) (sym c.next_at-step.ensures))

pub make_or_give_up-requires-clause-instead : goal.make_or_give_up-requires-clause-instead
make_or_give_up-requires-clause-instead g c q number actor =
    let f = c.args.floor.now in
    let laws = c.works_can_be_made.ensures in
    let same = actor ∙ (looked (unchanged c.take_first.ensures.took.same) c.has_more_at.ensures.same).actor in
    collect-instead laws.asked laws.prepared f q (subst (IsOpenAt f) (sym same) (open-at c.requires.at)) None c.args.gate c.args.queued
    (subst (λ (a : ActorValue). IsToCollect a None c.args.gate c.args.queued) (sym same) c.requires.collects)

pub returns : goal.returns
returns g c = record { came = c.make_or_give_up.ensures.came c.args.player.now (looked (unchanged c.take_first.ensures.took.same) c.has_more_at.ensures.same) c.requires.at.opened }

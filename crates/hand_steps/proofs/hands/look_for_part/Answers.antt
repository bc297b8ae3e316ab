use Rattle.std.proofs.Common.{◌≡◌, ◌∙◌, [], refl, sym, ap, subst, arith}
use Rattle.session_steps.specs.core_due.specs.Look.{setting_by}
use Rattle.session_steps.specs.core_steps.specs.{Parts.{part_asks, part_places}, declared.parts.PartStep.TheVariants.TakePart}
use Rattle.hand_steps.proofs.AtDesks.{desk-there, gave-back, part-waits, take-due, was-none}
use Rattle.hand_steps.specs.Hands.{IsIdleHand}
use Rattle.session_steps.specs.seat_steps.proofs.{Since.{looked, unchanged}, WithLedger.first-there}
use Rattle.session_steps.specs.seat_steps.specs.{Booked.IsDue, Takes.GaveAll, declared.floor.Player.Player}
use Rattle.session_steps.specs.volap_cell.specs.{Cells.{cell_of, desk_in}, ImageKinds.IsFree, Values.{ActorValue, actor_of}}
use Rattle.hand_steps.proofs.hands.look_for_part.Goals as goal

pub worker_of-worker-requires : goal.worker_of-worker-requires
worker_of-worker-requires g c = record { hand = (c.requires.idle.worker, c.requires.idle.role) }

pub take_first-requires-clause-cell : goal.take_first-requires-clause-cell
take_first-requires-clause-cell g c = desk-there c.args.floor.now c.args.player.now c.desk_place-desk.result c.args.server c.requires.stands.seated c.requires.there (c.desk_place-desk.ensures (setting_by [] c.args.floor.now.with) refl)

pub found_at-requires-clause-held : goal.found_at-requires-clause-held
found_at-requires-clause-held g c = first-there c.args.floor.now c.take_first.new.player c.take_first.ensures.seated c.desk_place-desk.result 4 [] c.take_first.ensures.ranks

pub take_part-requires-clause-behind : goal.take_part-requires-clause-behind
take_part-requires-clause-behind g c = (let at = c.desk_place-desk.ensures (setting_by [] c.args.floor.now.with) refl in omega (arith, at))

pub take_part-requires-clause-due : goal.take_part-requires-clause-due
take_part-requires-clause-due g c =
    let f = c.args.floor.now in
    let mid = c.take_first.new.player in
    let desk = c.desk_place-desk.result in
    let worker = c.worker_of-worker.result in
    let same : actor_of mid.actor ≡ actor_of c.args.player.now.actor = ap actor_of c.take_first.ensures.took.same.actor in
    let idle : IsIdleHand mid = record {
      worker = worker;
      role = ap (λ (a : ActorValue). a.role) same ∙ c.worker_of-worker.ensures;
      free = subst (λ (a : ActorValue). IsFree a) (sym same) c.requires.idle.free;
    } in
    let there = first-there f mid c.take_first.ensures.seated desk 4 [] c.take_first.ensures.ranks in
    subst (λ (p : Player). IsDue f p (part_places (TakePart desk)) (part_asks (TakePart desk))) (sym c.found_at.ensures.same)
    (take-due f mid desk c.args.server idle c.requires.there c.desk_place-desk.ensures there
    (λ cell at. part-waits worker (desk_in (cell_of cell)) (sym c.in-Part.is ∙ c.found_at.ensures.seen cell at)))

pub returns-in-Part : goal.returns-in-Part
returns-in-Part g c = record { found = c.take_part.ensures.taken c.args.player.now (looked (unchanged c.take_first.ensures.took.same) c.found_at.ensures.same) }

pub returns-in-Nothing : goal.returns-in-Nothing
returns-in-Nothing g c =
    record { found = gave-back c.args.floor.now (looked (unchanged c.take_first.ensures.took.same) c.found_at.ensures.same) c.give_all.ensures.stands c.give_all.ensures.gave }

pub returns-in-NoSession : goal.returns-in-NoSession
returns-in-NoSession g c =
    let f = c.args.floor.now in
    let mid = c.take_first.new.player in
    let desk = c.desk_place-desk.result in
    let worker = c.worker_of-worker.result in
    let same = unchanged c.take_first.ensures.took.same in
    let gave : GaveAll mid c.give_all-in-NoSession.new.player = subst (λ (p : Player). GaveAll p c.give_all-in-NoSession.new.player) c.found_at.ensures.same c.give_all-in-NoSession.ensures.gave in
    record {
      found = (
        gave-back f same c.give_all-in-NoSession.ensures.stands gave,
        was-none f same c.give_all-in-NoSession.ensures.stands gave c.args.server worker desk c.take_first.ensures.seated (c.desk_place-desk.ensures (setting_by [] f.with) refl)
            (first-there f mid c.take_first.ensures.seated desk 4 [] c.take_first.ensures.ranks)
            (λ cell at. sym c.in-NoSession.is ∙ c.found_at.ensures.seen cell at),
      );
    }

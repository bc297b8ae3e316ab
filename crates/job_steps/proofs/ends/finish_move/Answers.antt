use Rattle.std.proofs.Common.{◌∙◌, ◌-◌, List, Some, length, slice_get, refl, sym, ap, subst}
use Rattle.cell_stock.specs.declared.purse.Spare.{Spare}
use Rattle.seat_steps.specs.core_due.proofs.LastItems.{last-at}
use Rattle.job_steps.proofs.Dues.{IsOpenAt, move-instead, move-step-due, open-at, stay-due}
use Rattle.job_steps.specs.Dues.{IsToFinish}
use Rattle.seat_steps.specs.volap_cell.specs.Values.{ActorValue}
use Rattle.job_steps.proofs.ends.finish_move.Goals as goal

pub stay-requires-clause-due : goal.stay-requires-clause-due
stay-requires-clause-due g c q number same =
    let f = c.args.floor.now in
    let laws = c.works_can_be_made.ensures in
    let last = ap (λ (x : ActorValue). slice_get x.purse (length x.purse - 1)) same ∙ ap (λ (xs : List Spare). slice_get xs (length xs - 1)) c.in-Some.ensures.some.1 ∙ last-at c.in-Some.ensures.some.0 c.in-Some.spare in
    stay-due laws.asked laws.prepared f q (subst (IsOpenAt f) (sym same) (open-at c.requires.at)) c.args.map c.args.gate (Some c.args.to)
    (subst (λ (x : ActorValue). IsToFinish f x c.args.map c.args.gate (Some c.args.to)) (sym same) c.requires.finishes) c.args.to refl c.in-Some.spare last c.if-to-map.true

pub stay-requires-clause-instead : goal.stay-requires-clause-instead
stay-requires-clause-instead g c q number same =
    let f = c.args.floor.now in
    let laws = c.works_can_be_made.ensures in
    let last = ap (λ (x : ActorValue). slice_get x.purse (length x.purse - 1)) same ∙ ap (λ (xs : List Spare). slice_get xs (length xs - 1)) c.in-Some.ensures.some.1 ∙ last-at c.in-Some.ensures.some.0 c.in-Some.spare in
    move-instead laws.asked laws.prepared f q (subst (IsOpenAt f) (sym same) (open-at c.requires.at)) c.args.map c.args.gate (Some c.args.to)
    (subst (λ (x : ActorValue). IsToFinish f x c.args.map c.args.gate (Some c.args.to)) (sym same) c.requires.finishes) c.args.to refl c.in-Some.spare last

pub move_on-requires-clause-due : goal.move_on-requires-clause-due
move_on-requires-clause-due g c q number same =
    let f = c.args.floor.now in
    let laws = c.works_can_be_made.ensures in
    let last = ap (λ (x : ActorValue). slice_get x.purse (length x.purse - 1)) same ∙ ap (λ (xs : List Spare). slice_get xs (length xs - 1)) c.in-Some.ensures.some.1 ∙ last-at c.in-Some.ensures.some.0 c.in-Some.spare in
    move-step-due laws.asked laws.prepared f q (subst (IsOpenAt f) (sym same) (open-at c.requires.at)) c.args.map c.args.gate (Some c.args.to)
    (subst (λ (x : ActorValue). IsToFinish f x c.args.map c.args.gate (Some c.args.to)) (sym same) c.requires.finishes) c.args.to refl c.in-Some.spare last c.if-to-map.false

pub move_on-requires-clause-instead : goal.move_on-requires-clause-instead
move_on-requires-clause-instead g c q number same =
    let f = c.args.floor.now in
    let laws = c.works_can_be_made.ensures in
    let last = ap (λ (x : ActorValue). slice_get x.purse (length x.purse - 1)) same ∙ ap (λ (xs : List Spare). slice_get xs (length xs - 1)) c.in-Some.ensures.some.1 ∙ last-at c.in-Some.ensures.some.0 c.in-Some.spare in
    move-instead laws.asked laws.prepared f q (subst (IsOpenAt f) (sym same) (open-at c.requires.at)) c.args.map c.args.gate (Some c.args.to)
    (subst (λ (x : ActorValue). IsToFinish f x c.args.map c.args.gate (Some c.args.to)) (sym same) c.requires.finishes) c.args.to refl c.in-Some.spare last

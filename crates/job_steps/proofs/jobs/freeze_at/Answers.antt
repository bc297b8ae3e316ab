use Rattle.std.proofs.Common.{◌≡◌, ◌∙◌, ℕ, ◌<◌, List, [], ◌∷◌, ◌++◌, Option, Some, IsSome, refl, sym, ap, subst, arith}
use mathlib.Core.Option.{none}
use Rattle.seat_steps.specs.core_steps.specs.declared.jobs.JobStep.TheVariants as job
use Rattle.job_steps.proofs.{Arms.{held-at, leads-still, next-second, next-third, order-second, order-third, room-second, room-third, stop-came}, Dues.{IsOpenAt, freeze-due, open-at}, Made.{goes-since, opened-since}}
use Rattle.job_steps.specs.{Dues.{IsToFreeze}, Jobs.CameTo, declared.steps.JobDid.JobDid}
use Rattle.seat_steps.proofs.Since.{as-before, before-unchanged, unchanged, unchanged-on}
use Rattle.seat_steps.specs.declared.looks.Lead.TheVariants.{Gate}
use Rattle.turn_table.specs.{Numbered.value_of, Seat.cell_count}
use Rattle.seat_steps.specs.volap_cell.specs.{Commands.EndsStage, Setting.stock_cell, Values.{ActorValue, StageValue}, declared.command.Command.Command}
use Rattle.seat_steps.specs.core_image.specs.NotesDue.{MayBeLeft}
use Rattle.row_ledger.specs.declared.settings.How.TheVariants.{NoMemory}
use Rattle.job_steps.proofs.jobs.freeze_at.Goals as goal

pub take-requires-clause-cell : goal.take-requires-clause-cell
take-requires-clause-cell g c =
    let f = c.args.floor.now in
    let p = c.args.player.now in
    let laws = c.works_can_be_made.ensures in
    (next-second f p c.requires.seated c.args.map 1 c.requires.held (job.Freeze c.args.map c.args.gate)
    (freeze-due laws.asked laws.prepared f p (open-at c.requires.at) c.args.map c.args.shard c.requires.called c.args.gate c.requires.led) c.args.gate (stock_cell ∷ []) refl).0

pub take-requires-clause-other : goal.take-requires-clause-other
take-requires-clause-other g c =
    let f = c.args.floor.now in
    let p = c.args.player.now in
    let laws = c.works_can_be_made.ensures in
    (next-second f p c.requires.seated c.args.map 1 c.requires.held (job.Freeze c.args.map c.args.gate)
    (freeze-due laws.asked laws.prepared f p (open-at c.requires.at) c.args.map c.args.shard c.requires.called c.args.gate c.requires.led) c.args.gate (stock_cell ∷ []) refl).1

pub take-requires-clause-rank : goal.take-requires-clause-rank
take-requires-clause-rank g c = order-second c.args.floor.now c.args.player.now c.requires.seated c.args.map 1 c.requires.held c.args.gate 2 (omega arith)

pub take-requires-clause-room : goal.take-requires-clause-room
take-requires-clause-room g c = room-second c.args.floor.now c.args.player.now c.requires.seated c.args.map 1 c.requires.held

pub take-requires-2-clause-cell : goal.take-requires-2-clause-cell
take-requires-2-clause-cell g c =
    let f = c.args.floor.now in
    let q = c.take.new.player in
    let laws = c.works_can_be_made.ensures in
    let took = c.take.ensures.took in
    let same = unchanged took.same in
    let held = took.ranks ∙ ap (λ (l : List (ℕ × Option ℕ)). l ++ (c.args.gate, Some 2) ∷ []) c.requires.held in
    let due = freeze-due laws.asked laws.prepared f q (subst (IsOpenAt f) (sym same.actor) (open-at c.requires.at)) c.args.map c.args.shard
    (subst (λ (a : ActorValue). IsToFreeze f a c.args.map c.args.shard) (sym same.actor) c.requires.called) c.args.gate (leads-still took c.args.map c.args.shard (Gate c.args.gate) c.requires.led) in
    subst (λ (k : ℕ). k < cell_count f.table) (sym c.stock_place.ensures)
    (next-third f q c.take.ensures.seated c.args.map c.args.gate 1 2 (omega arith) held (job.Freeze c.args.map c.args.gate) due stock_cell [] refl).0

pub take-requires-2-clause-other : goal.take-requires-2-clause-other
take-requires-2-clause-other g c =
    let f = c.args.floor.now in
    let q = c.take.new.player in
    let laws = c.works_can_be_made.ensures in
    let took = c.take.ensures.took in
    let same = unchanged took.same in
    let held = took.ranks ∙ ap (λ (l : List (ℕ × Option ℕ)). l ++ (c.args.gate, Some 2) ∷ []) c.requires.held in
    let due = freeze-due laws.asked laws.prepared f q (subst (IsOpenAt f) (sym same.actor) (open-at c.requires.at)) c.args.map c.args.shard
    (subst (λ (a : ActorValue). IsToFreeze f a c.args.map c.args.shard) (sym same.actor) c.requires.called) c.args.gate (leads-still took c.args.map c.args.shard (Gate c.args.gate) c.requires.led) in
    subst (λ (k : ℕ). value_of q.seat.view.held k ≡ none) (sym c.stock_place.ensures)
    (next-third f q c.take.ensures.seated c.args.map c.args.gate 1 2 (omega arith) held (job.Freeze c.args.map c.args.gate) due stock_cell [] refl).1

pub take-requires-2-clause-rank : goal.take-requires-2-clause-rank
take-requires-2-clause-rank g c =
    let held = c.take.ensures.took.ranks ∙ ap (λ (l : List (ℕ × Option ℕ)). l ++ (c.args.gate, Some 2) ∷ []) c.requires.held in
    order-third c.args.floor.now c.take.new.player c.take.ensures.seated c.args.map c.args.gate 1 2 (omega arith) held c.stock_place.result 7 (omega arith)

pub take-requires-2-clause-room : goal.take-requires-2-clause-room
take-requires-2-clause-room g c =
    let held = c.take.ensures.took.ranks ∙ ap (λ (l : List (ℕ × Option ℕ)). l ++ (c.args.gate, Some 2) ∷ []) c.requires.held in
    room-third c.args.floor.now c.take.new.player c.take.ensures.seated c.args.map c.args.gate 1 2 (omega arith) held

pub make_job-requires-clause-opened : goal.make_job-requires-clause-opened
make_job-requires-clause-opened g c = opened-since (unchanged-on (unchanged c.take.ensures.took.same) (unchanged c.take-2.ensures.took.same)) c.requires.at.opened

pub make_job-requires-clause-due : goal.make_job-requires-clause-due
make_job-requires-clause-due g c =
    let f = c.args.floor.now in
    let q = c.take-2.new.player in
    let laws = c.works_can_be_made.ensures in
    let same = unchanged-on (unchanged c.take.ensures.took.same) (unchanged c.take-2.ensures.took.same) in
    freeze-due laws.asked laws.prepared f q (subst (IsOpenAt f) (sym same.actor) (open-at c.requires.at)) c.args.map c.args.shard
    (subst (λ (a : ActorValue). IsToFreeze f a c.args.map c.args.shard) (sym same.actor) c.requires.called) c.args.gate
    (leads-still c.take-2.ensures.took c.args.map c.args.shard (Gate c.args.gate) (leads-still c.take.ensures.took c.args.map c.args.shard (Gate c.args.gate) c.requires.led))

pub make_job-requires-clause-at : goal.make_job-requires-clause-at
make_job-requires-clause-at g c =
    let f = c.args.floor.now in
    let q = c.take-2.new.player in
    let laws = c.works_can_be_made.ensures in
    let same = unchanged-on (unchanged c.take.ensures.took.same) (unchanged c.take-2.ensures.took.same) in
    let due = freeze-due laws.asked laws.prepared f q (subst (IsOpenAt f) (sym same.actor) (open-at c.requires.at)) c.args.map c.args.shard
    (subst (λ (a : ActorValue). IsToFreeze f a c.args.map c.args.shard) (sym same.actor) c.requires.called) c.args.gate
    (leads-still c.take-2.ensures.took c.args.map c.args.shard (Gate c.args.gate) (leads-still c.take.ensures.took c.args.map c.args.shard (Gate c.args.gate) c.requires.led)) in
    let held = c.take-2.ensures.took.ranks ∙ ap (λ (l : List (ℕ × Option ℕ)). l ++ (c.stock_place.result, Some 7) ∷ []) (c.take.ensures.took.ranks ∙ ap (λ (l : List (ℕ × Option ℕ)). l ++ (c.args.gate, Some 2) ∷ []) c.requires.held) in
    held-at f q c.take-2.ensures.seated (job.Freeze c.args.map c.args.gate) due ((c.args.map, Some 1) ∷ (c.args.gate, Some 2) ∷ (c.stock_place.result, Some 7) ∷ []) held (ap (λ (k : ℕ). c.args.map ∷ c.args.gate ∷ k ∷ []) c.stock_place.ensures)

pub returns-in-Ok : goal.returns-in-Ok
returns-in-Ok g c = record { came = λ p same has. goes-since c.args.floor.now (unchanged-on same (unchanged-on (unchanged c.take.ensures.took.same) (unchanged c.take-2.ensures.took.same))) c.in-Ok.ensures.went }

pub stop-requires : goal.stop-requires
stop-requires g c =
    let same = unchanged-on (unchanged-on (unchanged c.take.ensures.took.same) (unchanged c.take-2.ensures.took.same)) (before-unchanged c.in-Err.ensures.same) in
    record { opened = subst (λ (o : Option Command). IsSome o) (sym (opened-since same c.requires.at.opened).command) refl }

pub returns-in-Err : goal.returns-in-Err
returns-in-Err g c =
    let f = c.args.floor.now in
    let later = unchanged-on (unchanged-on (unchanged c.take.ensures.took.same) (unchanged c.take-2.ensures.took.same)) (before-unchanged c.in-Err.ensures.same) in
    record {
      came = λ p same has. (
          let all = unchanged-on same later in
          let x = c.requires.called in
          subst (λ (r : JobDid). CameTo f r p c.make_job.new.player) (sym (c.stop.ensures has.of has.work (ap (λ (a : ActorValue). a.command) all.actor ∙ has.command)))
          (stop-came f p NoMemory (as-before f c.in-Err.ensures.same.stands all) has x.job (ap (λ (a : ActorValue). a.job) (sym same.actor) ∙ x.has.is_job)
          (subst (λ (st : StageValue). EndsStage st NoMemory) (sym x.has.stage_is) tt) (subst MayBeLeft (sym x.has.stage_is) tt))
          );
    }

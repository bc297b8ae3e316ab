use Rattle.std.proofs.Common.{◌∙◌, ℕ, List, [], ◌∷◌, ◌++◌, Option, Some, refl, sym, ap, subst, arith}
use Rattle.seat_steps.specs.core_steps.specs.declared.jobs.JobStep.TheVariants as job
use Rattle.job_steps.proofs.{Arms.{held-at, leads-still, next-second, order-second, room-second}, Dues.{IsOpenAt, open-at, read-due}, Made.{goes-since, opened-since}}
use Rattle.job_steps.specs.Dues.{IsToRead}
use Rattle.seat_steps.proofs.Since.{unchanged, unchanged-on}
use Rattle.seat_steps.specs.declared.looks.Lead.TheVariants.{Gate}
use Rattle.seat_steps.specs.volap_cell.specs.Values.{ActorValue}
use Rattle.seat_steps.specs.volap_turns.proofs.Turned.{when-ok}
use Rattle.job_steps.proofs.balances.read_at.Goals as goal

pub take-requires-clause-cell : goal.take-requires-clause-cell
take-requires-clause-cell g c =
    let f = c.args.floor.now in
    let p = c.args.player.now in
    let laws = c.works_can_be_made.ensures in
    (next-second f p c.requires.seated c.args.map 1 c.requires.held (job.ReadLoad c.args.map c.args.gate f.with.workers)
    (read-due laws.asked laws.prepared f p (open-at c.requires.at) c.args.map c.args.shard c.requires.reads c.args.gate c.requires.led) c.args.gate [] refl).0

pub take-requires-clause-other : goal.take-requires-clause-other
take-requires-clause-other g c =
    let f = c.args.floor.now in
    let p = c.args.player.now in
    let laws = c.works_can_be_made.ensures in
    (next-second f p c.requires.seated c.args.map 1 c.requires.held (job.ReadLoad c.args.map c.args.gate f.with.workers)
    (read-due laws.asked laws.prepared f p (open-at c.requires.at) c.args.map c.args.shard c.requires.reads c.args.gate c.requires.led) c.args.gate [] refl).1

pub take-requires-clause-rank : goal.take-requires-clause-rank
take-requires-clause-rank g c = order-second c.args.floor.now c.args.player.now c.requires.seated c.args.map 1 c.requires.held c.args.gate 2 (omega arith)

pub take-requires-clause-room : goal.take-requires-clause-room
take-requires-clause-room g c = room-second c.args.floor.now c.args.player.now c.requires.seated c.args.map 1 c.requires.held

pub make_job-requires-clause-opened : goal.make_job-requires-clause-opened
make_job-requires-clause-opened g c = opened-since (unchanged c.take.ensures.took.same) c.requires.at.opened

pub make_job-requires-clause-due : goal.make_job-requires-clause-due
make_job-requires-clause-due g c =
    let f = c.args.floor.now in
    let q = c.take.new.player in
    let laws = c.works_can_be_made.ensures in
    let same = unchanged c.take.ensures.took.same in
    read-due laws.asked laws.prepared f q (subst (IsOpenAt f) (sym same.actor) (open-at c.requires.at)) c.args.map c.args.shard
    (subst (λ (a : ActorValue). IsToRead f a c.args.map c.args.shard) (sym same.actor) c.requires.reads) c.args.gate (leads-still c.take.ensures.took c.args.map c.args.shard (Gate c.args.gate) c.requires.led)

pub make_job-requires-clause-at : goal.make_job-requires-clause-at
make_job-requires-clause-at g c =
    let f = c.args.floor.now in
    let q = c.take.new.player in
    let laws = c.works_can_be_made.ensures in
    let same = unchanged c.take.ensures.took.same in
    let due = read-due laws.asked laws.prepared f q (subst (IsOpenAt f) (sym same.actor) (open-at c.requires.at)) c.args.map c.args.shard
    (subst (λ (a : ActorValue). IsToRead f a c.args.map c.args.shard) (sym same.actor) c.requires.reads) c.args.gate (leads-still c.take.ensures.took c.args.map c.args.shard (Gate c.args.gate) c.requires.led) in
    let held = c.take.ensures.took.ranks ∙ ap (λ (l : List (ℕ × Option ℕ)). l ++ (c.args.gate, Some 2) ∷ []) c.requires.held in
    held-at f q c.take.ensures.seated (job.ReadLoad c.args.map c.args.gate f.with.workers) due ((c.args.map, Some 1) ∷ (c.args.gate, Some 2) ∷ []) held refl

pub returns : goal.returns
returns g c =
    let went = when-ok c.make_job.result c.make_job.ensures.went (c.make_job.ensures.sure refl) in
    record { came = λ p same has. goes-since c.args.floor.now (unchanged-on same (unchanged c.take.ensures.took.same)) went }

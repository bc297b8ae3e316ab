use Rattle.std.proofs.Common.{ℤ, Bool, Ok, subst, rules}
use Rattle.std.specs.declared.alloc.AllocError.{AllocError}
use Rattle.actor_run.specs.{Doing.{Does, HasDone, HasTold}, Sessions.TriesInsert}
use Rattle.actor_run.proofs.{Ends.{insert-nothing, insert-refused, insert-unknown}, Measured.measured, Unknown.unknown-coord}
use Rattle.actor_run.proofs.calls.insert.Goals as goal

pub insert_at-requires-clause-coord : goal.insert_at-requires-clause-coord
insert_at-requires-clause-coord g c _ _ = c.in-Ok.ensures.ok.valid

pub returns-in-Ok-clause-does : goal.returns-in-Ok-clause-does
returns-in-Ok-clause-does g c =
    measured (λ (m : ℤ). Does c.args.floor.now (TriesInsert c.insert_at.result c.args.names.now m) c.args.player.now c.insert_at.new.player) c.args.measures (search rules)
    (c.insert_at.ensures.does c.args.names.now c.in-Ok.ensures.ok)

pub returns-in_err-note-in-Err-clause-does : goal.returns-in_err-note-in-Err-clause-does
returns-in_err-note-in-Err-clause-does g c server s =
    let f = c.args.floor.now in
    let was = c.args.player.now in
    insert-nothing f server was c.note.new.player c.from_residual.result c.from_residual.ensures.0 c.args.names.now c.args.measures
    (subst (λ r. HasDone f (HasTold r c.in-Err.dim) server was c.note.new.player) c.in_err-note-in-Err.was (c.note.ensures.does server s))

pub returns-then-branch-clause-does : goal.returns-then-branch-clause-does
returns-then-branch-clause-does g c server s =
    let f = c.args.floor.now in
    let now = c.note.new.player in
    let did = subst (λ r. HasDone f (HasTold r c.in-Err.dim) server c.args.player.now now) c.in_ok-note-in-Err.was (c.note.ensures.does server s) in
    let told = subst (λ (b : Bool). HasDone f (HasTold {E = AllocError} (Ok b) c.in-Err.dim) server c.args.player.now now) c.if-branch.true did in
    insert-unknown f server c.args.player.now now c.args.names.now c.args.measures c.in-Err.dim
    (unknown-coord _ c.coord.result c.in-Err.dim c.in-Err.is c.coord.ensures.unknown c.coord.ensures.known) told

pub returns-else-branch-clause-does : goal.returns-else-branch-clause-does
returns-else-branch-clause-does g c server s =
    let f = c.args.floor.now in
    let now = c.note.new.player in
    let did = subst (λ r. HasDone f (HasTold r c.in-Err.dim) server c.args.player.now now) c.in_ok-note-in-Err.was (c.note.ensures.does server s) in
    let refused = subst (λ (b : Bool). HasDone f (HasTold {E = AllocError} (Ok b) c.in-Err.dim) server c.args.player.now now) c.if-branch.false did in
    insert-refused f server c.args.player.now now c.args.names.now c.args.measures refused

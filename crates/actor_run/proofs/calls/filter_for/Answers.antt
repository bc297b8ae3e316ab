use Rattle.std.proofs.Common.{◌∙◌, Bool, Ok, Err, ap, subst}
use Rattle.std.specs.declared.alloc.AllocError.{AllocError}
use Rattle.actor_run.specs.Doing.{HasDone, HasRefused, HasTold}
use Rattle.actor_run.proofs.{Ends.{query-refused, query-unknown}, Unknown.unknown-filter}
use Rattle.actor_run.proofs.calls.filter_for.Goals as goal

pub returns-then-branch-clause-refused : goal.returns-then-branch-clause-refused
returns-then-branch-clause-refused g c server s =
    let f = c.args.floor.now in
    let now = c.note.new.player in
    let dim = c.in-Err-Unknown.dim in
    let did = subst (λ r. HasDone f (HasTold r dim) server c.args.player.now now) c.in_ok-note-in-Err-Unknown.was (c.note.ensures.does server s) in
    let told = subst (λ (b : Bool). HasDone f (HasTold {E = AllocError} (Ok b) dim) server c.args.player.now now) c.if-branch.true did in
    query-unknown f server c.args.player.now now c.args.names.now dim
    (unknown-filter _ c.filter.result dim (c.in-Err-Unknown.is ∙ ap Err c.in-Err-Unknown.field-0-is) c.filter.ensures.unknown c.filter.ensures.known) told

pub returns-else-branch-clause-refused : goal.returns-else-branch-clause-refused
returns-else-branch-clause-refused g c server s =
    let f = c.args.floor.now in
    let now = c.note.new.player in
    let dim = c.in-Err-Unknown.dim in
    let did = subst (λ r. HasDone f (HasTold r dim) server c.args.player.now now) c.in_ok-note-in-Err-Unknown.was (c.note.ensures.does server s) in
    let refused = subst (λ (b : Bool). HasDone f (HasTold {E = AllocError} (Ok b) dim) server c.args.player.now now) c.if-branch.false did in
    query-refused f server c.args.player.now now c.args.names.now refused

pub returns-in_ok-refuse-in-Err-NoMemory-clause-refused : goal.returns-in_ok-refuse-in-Err-NoMemory-clause-refused
returns-in_ok-refuse-in-Err-NoMemory-clause-refused g c server s =
    let f = c.args.floor.now in
    let was = c.args.player.now in
    query-refused f server was c.refuse.new.player c.args.names.now
    (subst (λ r. HasDone f (HasRefused r) server was c.refuse.new.player) c.in_ok-refuse-in-Err-NoMemory.was (c.refuse.ensures.does server s))

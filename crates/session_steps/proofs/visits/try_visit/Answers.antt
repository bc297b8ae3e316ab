use Rattle.std.proofs.Common.{arith}
use Rattle.part_steps.specs.core_steps.specs.declared.trees.TreeStep.TheVariants.{VisitBlock}
use Rattle.part_steps.proofs.{Keeping.tree-kept, PartsMade.{tree-asked, tree-few}}
use Rattle.session_steps.proofs.{OneHeld.as-made, Visiting.{block-at, can-try, has-visited, reads, room-still, stands-still, still-sure}}
use Rattle.part_steps.specs.seat_steps.proofs.Since.{as-before, as-err, unchanged}
use Rattle.session_steps.proofs.visits.try_visit.Goals as goal
use Rattle.part_steps.specs.volap_cell.specs.Values.{actor_of}

pub try_take-requires-clause-cell : goal.try_take-requires-clause-cell
try_take-requires-clause-cell c = (can-try c.args.floor.now c.args.player.now c.requires.stands c.args.block (reads (actor_of c.args.player.now.actor) c.args.block c.requires.noted)).within

pub try_take-requires-clause-other : goal.try_take-requires-clause-other
try_take-requires-clause-other c = (can-try c.args.floor.now c.args.player.now c.requires.stands c.args.block (reads (actor_of c.args.player.now.actor) c.args.block c.requires.noted)).other

pub try_take-requires-clause-room : goal.try_take-requires-clause-room
try_take-requires-clause-room c = (can-try c.args.floor.now c.args.player.now c.requires.stands c.args.block (reads (actor_of c.args.player.now.actor) c.args.block c.requires.noted)).room

pub returns-in_err-try_take-clause-same : goal.returns-in_err-try_take-clause-same
returns-in_err-try_take-clause-same c =
    let same = c.in_err-try_take.ensures.same in
    as-err c.from_residual.result (as-before c.args.floor.now (stands-still c.args.floor.now c.args.player.now c.try_take.new.player c.requires.stands c.try_take.ensures.seated same c.in_err-try_take.ensures.ranks) (unchanged same))

pub make-requires-clause-some : goal.make-requires-clause-some
make-requires-clause-some c =
    let p = c.args.player.now in
    let at = block-at c.args.floor.now p c.requires.stands c.args.block (reads (actor_of p.actor) c.args.block c.requires.noted) c.try_take.new.player c.in_ok-try_take.ensures.took c.try_take.ensures.seated in
    omega (arith, at.count, (tree-few (VisitBlock c.args.block)).0)

pub make-requires-clause-few : goal.make-requires-clause-few
make-requires-clause-few c =
    let p = c.args.player.now in
    let at = block-at c.args.floor.now p c.requires.stands c.args.block (reads (actor_of p.actor) c.args.block c.requires.noted) c.try_take.new.player c.in_ok-try_take.ensures.took c.try_take.ensures.seated in
    omega (arith, at.count, (tree-few (VisitBlock c.args.block)).1)

pub make-requires-clause-at : goal.make-requires-clause-at
make-requires-clause-at c =
    let p = c.args.player.now in
    block-at c.args.floor.now p c.requires.stands c.args.block (reads (actor_of p.actor) c.args.block c.requires.noted) c.try_take.new.player c.in_ok-try_take.ensures.took c.try_take.ensures.seated

pub make-requires-clause-asked : goal.make-requires-clause-asked
make-requires-clause-asked c =
    let f = c.args.floor.now in
    let p = c.args.player.now in
    let mid = c.try_take.new.player in
    let visits = reads (actor_of p.actor) c.args.block c.requires.noted in
    let took = c.in_ok-try_take.ensures.took in
    tree-asked f mid c.try_take.ensures.seated (VisitBlock c.args.block) (still-sure f p c.requires.stands c.args.block visits mid took)
    (block-at f p c.requires.stands c.args.block visits mid took c.try_take.ensures.seated)

pub make-requires-clause-kept : goal.make-requires-clause-kept
make-requires-clause-kept c = tree-kept c.args.floor.now.hierarchy c.try_take.new.player (VisitBlock c.args.block)

pub returns-clause-visited : goal.returns-clause-visited
returns-clause-visited c =
    let f = c.args.floor.now in
    let p = c.args.player.now in
    let mid = c.try_take.new.player in
    let visits = reads (actor_of p.actor) c.args.block c.requires.noted in
    let took = c.in_ok-try_take.ensures.took in
    let m = c.make in
    has-visited f p mid m.new.player c.args.block c.try_take.ensures.seated took.same m.ensures.stands m.ensures.lists
    (as-made m.result m.ensures.made (m.ensures.room (room-still f p c.requires.stands c.args.block visits mid took c.requires.noted c.requires.room)))

pub returns-in_err-try_take-clause-still : goal.returns-in_err-try_take-clause-still
returns-in_err-try_take-clause-still c = as-err c.from_residual.result (c.in_err-try_take.ensures.same.actor, c.in_err-try_take.ensures.seen)

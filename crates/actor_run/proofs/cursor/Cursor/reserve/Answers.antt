use Rattle.std.proofs.Common.{◌≡◌, ◌≤◌, ap, subst}
use Rattle.actor_run.specs.Cursors.{CursorValue, cursor_of}
use Rattle.actor_run.proofs.CursorSteps.{cursor-reserved, in_place}
use Rattle.whole_steps.specs.core_tree.specs.ReadDue.{room_to_note}
use Rattle.whole_steps.specs.volap_cell.specs.Values.{ActorValue}
use Rattle.actor_run.proofs.cursor.Cursor.reserve.Goals as goal

pub invariant_of-self : goal.invariant_of-self
invariant_of-self c =
    let i = c.self.inside in
    cursor-reserved i.hall.now i.player c.reserve_notes.new.actor c.reserve_notes.ensures.same c.reserve_notes.ensures.went i.server i.was.value i.of i.filter.value c.self.invariant

pub returns-clause-ok : goal.returns-clause-ok
returns-clause-ok c = c.reserve_notes.ensures.ok

pub returns-clause-same : goal.returns-clause-same
returns-clause-same c =
    let i = c.self.inside in
    let b = c.reserve_notes.new.actor in
    let now = cursor_of i.hall.now i.server i.was.value i.of i.filter.value (in_place i.player b) in
    subst (λ (v : CursorValue). now ≡ record v { room = room_to_note b }) c.self.view_is
    (ap (λ (x : ActorValue). let z : CursorValue = record now { actor = x } in z) c.reserve_notes.ensures.same)

pub returns-clause-room : goal.returns-clause-room
returns-clause-room c = subst (λ (v : CursorValue). v.room ≤ room_to_note c.reserve_notes.new.actor) c.self.view_is c.reserve_notes.ensures.room

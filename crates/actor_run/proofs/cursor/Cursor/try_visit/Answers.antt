use Rattle.std.proofs.Common.{◌∙◌, sym, subst}
use Rattle.actor_run.specs.Cursors.{CursorValue, HasRoom, WasRefused, cursor_of}
use Rattle.actor_run.proofs.CursorSteps.{cursor-refused, cursor-visited, if-err}
use Rattle.whole_steps.specs.seat_steps.specs.{Floors.Stands, declared.floor.Floor.Floor}
use Rattle.whole_steps.specs.session_steps.specs.Visits.{HasVisited}
use Rattle.turn_table.specs.declared.turns.Busy.{Busy}
use Rattle.actor_run.proofs.cursor.Cursor.try_visit.Goals as goal

pub try_visit-requires-clause-stands : goal.try_visit-requires-clause-stands
try_visit-requires-clause-stands c = subst (λ (f : Floor). Stands f c.self.inside.player) (sym c.hall.view_is) c.self.invariant.since.stands

pub try_visit-requires-clause-noted : goal.try_visit-requires-clause-noted
try_visit-requires-clause-noted c = sym c.noted_by.ensures ∙ c.in-Some.is

pub try_visit-requires-clause-room : goal.try_visit-requires-clause-room
try_visit-requires-clause-room c = subst HasRoom (sym c.self.view_is) c.requires.room

pub invariant_of-self-in-Some : goal.invariant_of-self-in-Some
invariant_of-self-in-Some c =
    let i = c.self.inside in
    let p = c.try_visit.new.player in
    let visited = subst (λ (f : Floor). HasVisited f c.in-Some.block i.player p) c.hall.view_is c.in_ok-try_visit-in-Some.ensures.visited in
    cursor-visited i.hall.now i.server i.was.value i.of i.filter.value i.player p c.in-Some.block visited c.self.invariant

pub returns-in_err-try_visit-in-Some-clause-read : goal.returns-in_err-try_visit-in-Some-clause-read
returns-in_err-try_visit-in-Some-clause-read c =
    let i = c.self.inside in
    let p = c.try_visit.new.player in
    let t = c.in_err-try_visit-in-Some in
    let busy = t.field-0.0 in
    let now = cursor_of i.hall.now i.server i.was.value i.of i.filter.value p in
    let refused : WasRefused busy.cell busy.word c.args.self.now now = subst (λ (v : CursorValue). WasRefused busy.cell busy.word v now) c.self.view_is
    (cursor-refused i.hall.now i.server i.was.value i.of i.filter.value i.player p busy.cell c.in-Some.block busy.word t.ensures.busy.0 t.ensures.still.0 t.ensures.read) in
    if-err c.from_residual.result c.from_residual.ensures (λ e is. subst (λ (b : Busy). WasRefused b.cell b.word c.args.self.now now) (sym is) refused)

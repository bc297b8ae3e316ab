use Rattle.std.proofs.Common.{◌∙◌, subst, sym}
use Rattle.core_pages.specs.volap_cell.specs.declared.kind.Kind.{Kind}
use Rattle.seeded_run.specs.{Instead.StandsFor, Machine.{about_in, world_of}}
use Rattle.seeded_run.proofs.{Begun.no-part, Cursors.Held.some-within, Due.DueBegins.beginning-is, Phases.Turns.{has-begun, rests-held, to-begin}}
use Rattle.seeded_run.proofs.machine.Running.begin.Goals as goal

pub begin-requires-clause-begins : goal.begin-requires-clause-begins
begin-requires-clause-begins c =
    let b = c.requires.begins in
    to-begin c.args.self.now c.requires.held.kept c.args.number b.kind b.due c.args.command.now c.requires.next c.requires.within b.begins

pub returns-in-Err-clause-rests : goal.returns-in-Err-clause-rests
returns-in-Err-clause-rests c = rests-held c.args.self.now c.requires.held c.begin.new.state c.in-Err.ensures.stays

pub move_on-requires-clause-session : goal.move_on-requires-clause-session
move_on-requires-clause-session c =
    c.session_of-session.ensures.value ∙ c.requires.held.kept.is_running.own c.args.number c.args.command.now c.requires.next

pub move_on-requires-clause-next : goal.move_on-requires-clause-next
move_on-requires-clause-next c = some-within c.args.self.now.phase.now _ c.args.command.now c.requires.next

pub returns-clause-turned : goal.returns-clause-turned
unfolding to-begin
returns-clause-turned c =
    let m = c.args.self.now in
    let made = c.in_default.ensures.made in
    let b = c.requires.begins in
    let to_begin = to-begin m c.requires.held.kept c.args.number b.kind b.due c.args.command.now c.requires.next c.requires.within b.begins in
    let kind_is = beginning-is m.h.now m.with m.state.cells.items m.state.actors.items (about_in m) (world_of m) c.requires.held.kept.core c.args.number c.args.command.now to_begin in
    has-begun m c.requires.held.kept c.args.number b.kind b.due c.begin.new.state made.0 made.1 c.requires.within
    (no-part m.state.actors.items c.args.number ((world_of m).actors c.args.number).errand b.kind made.0 b.begins) (subst (λ (k : Kind). StandsFor k made.0) (sym kind_is) made.2) c.args.command.now c.requires.next c.in_default.ensures.begun c.move_on.new.self c.move_on.ensures.moved

use Rattle.std.proofs.Common.{ℕ, ℤ, subst, rules}
use Rattle.hall_hands.specs.actor_run.proofs.Measured.{measured}
use Rattle.hall_hands.specs.actor_run.specs.Sessions.{DoesTryInsert}
use Rattle.script_form.specs.declared.script.Command.TheVariants.{Insert}
use Rattle.session_runs.specs.Sessions.{DoesCommand}
use Rattle.threaded_run.proofs.{Done.insert-done, Turns.does-one}
use Rattle.threaded_run.proofs.sessions.insert.Goals as goal

pub returns-clause-done : goal.returns-clause-done
returns-clause-done g c =
    let was = c.args.session.now in
    let now = c.try_insert.new.self in
    let new = c.args.new.now in
    let f = was.floor in
    let did = measured (λ (m : ℤ). DoesTryInsert c.try_insert.result new.names m was now) new.measures (search rules) c.try_insert.ensures.does in
    let told = subst (λ r. DoesTryInsert r new.names new.measures was now) c.in_ok-try_insert.was did in
    let one = insert-done was now told.goes c.in_ok-try_insert.field-0 new c.requires.server.number c.requires.server.is told.tries in
    does-one f.with f.hierarchy new.server (Insert new) was.seen now.seen (subst (λ (n : ℕ). DoesCommand f.with f.hierarchy n (Insert new) was.seen now.seen) c.requires.server.number one)

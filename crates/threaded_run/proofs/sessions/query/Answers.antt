use Rattle.std.proofs.Common.{ℕ, subst}
use Rattle.hall_hands.specs.actor_run.specs.Sessions.{DoesTryQuery}
use Rattle.script_form.specs.declared.script.Command.TheVariants.{Query}
use Rattle.session_runs.specs.Sessions.{DoesCommand}
use Rattle.threaded_run.proofs.{Done.query-done, Turns.does-one}
use Rattle.threaded_run.proofs.sessions.query.Goals as goal

pub returns-clause-done : goal.returns-clause-done
returns-clause-done g c =
    let was = c.args.session.now in
    let now = c.try_query.new.self in
    let question = c.args.question.now in
    let f = was.floor in
    let told = subst (λ r. DoesTryQuery r question.filter was now) c.in_ok-try_query.was c.try_query.ensures.does in
    let one = query-done was now told.goes c.in_ok-try_query.field-0 question c.requires.server.number c.requires.server.is told.tries in
    does-one f.with f.hierarchy question.server (Query question) was.seen now.seen (subst (λ (n : ℕ). DoesCommand f.with f.hierarchy n (Query question) was.seen now.seen) c.requires.server.number one)

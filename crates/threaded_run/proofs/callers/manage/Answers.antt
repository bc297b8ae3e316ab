use Rattle.std.proofs.Common.{◌≡◌, ◌∙◌, false, [], ◌∷◌, sym, subst}
use Rattle.hall_admin.specs.Callers.{TriesToCall}
use Rattle.script_form.specs.declared.script.{Command.Command, Command.TheVariants.Control}
use Rattle.script_run.specs.Phases.{closes}
use Rattle.session_runs.specs.Sessions.{DoesInTurn, stream_of}
use Rattle.threaded_run.proofs.{Called.{admin-calls, called-done, may-be-refused}, Turns.does-own}
use Rattle.threaded_run.proofs.callers.manage.Goals as goal

pub returns-in_ok-try_call-in_default-call-clause-done : goal.returns-in_ok-try_call-in_default-call-clause-done
returns-in_ok-try_call-in_default-call-clause-done g c =
    let was = c.args.admin.now in
    let now = c.try_call.new.self in
    let f = was.floor in
    let call = c.in-Control.call in
    let told = subst (λ r. TriesToCall call r was now) c.in_ok-try_call-in_default-call.was c.try_call.ensures.tried in
    let own = admin-calls f.with call c.in_default-call.not-Sync in
    let plain = subst (λ (x : Command). closes x ≡ false) c.in-Control.is c.requires.none_closes in
    let one = called-done f was.number call was.seen now.seen told.does.heard (c.requires.number ∙ sym own) (may-be-refused call plain) c.in_ok-try_call-in_default-call.field-0 told.does.tries in
    subst (λ (x : Command). DoesInTurn f.with f.hierarchy was.number (stream_of f.with (x ∷ []) was.number) was.seen now.seen) (sym c.in-Control.is)
    (does-own f.with f.hierarchy was.number (Control call) was.seen now.seen (own ∙ sym c.requires.number) one)

use Rattle.std.proofs.Common.{◌∙◌, [], ◌∷◌, refl, sym, ap, subst}
use Rattle.hall_admin.specs.Pulls.{TriesToSync, how_of}
use Rattle.row_ledger.specs.declared.settings.{Call.Call, Call.TheVariants.Sync}
use Rattle.script_form.specs.declared.script.{Command.Command, Command.TheVariants.Control}
use Rattle.session_runs.specs.Sessions.{DoesInTurn, stream_of}
use Rattle.threaded_run.proofs.{Called.called-done, Turns.does-own}
use Rattle.threaded_run.proofs.callers.pull.Goals as goal

pub returns-in_ok-try_sync-in-Sync-clause-done : goal.returns-in_ok-try_sync-in-Sync-clause-done
returns-in_ok-try_sync-in-Sync-clause-done g c =
    let was = c.args.puller.now in
    let now = c.try_sync.new.self in
    let f = was.floor in
    let call = Sync c.in-Sync.server in
    let told = subst (λ r. TriesToSync c.in-Sync.server r was now) c.in_ok-try_sync-in-Sync.was c.try_sync.ensures.tried in
    let one = called-done f was.number call was.seen now.seen told.heard c.requires.number refl (how_of c.in_ok-try_sync-in-Sync.field-0) told.tries in
    subst (λ (x : Command). DoesInTurn f.with f.hierarchy was.number (stream_of f.with (x ∷ []) was.number) was.seen now.seen)
    (sym (c.in-Control.is ∙ ap (λ (x : Call). Control x) c.in-Sync.is))
    (does-own f.with f.hierarchy was.number (Control call) was.seen now.seen (sym c.requires.number) one)

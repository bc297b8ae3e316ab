use Rattle.std.proofs.Common.{sym, subst}
use Rattle.actor_run.specs.{Doing.HasDone, Sessions.EndsSync}
use Rattle.actor_run.specs.declared.session.Synced.{Synced}
use Rattle.actor_run.proofs.{Pulled.{can-sync, sync-failed, sync-fine, sync-refused}, Sessions.{as-before, refused-later}}
use Rattle.actor_run.proofs.calls.sync.Goals.{in-Failed, in-Ok}
use Rattle.actor_run.proofs.calls.sync.Goals as goal

pub sync-requires-clause-begins : goal.sync-requires-clause-begins
sync-requires-clause-begins g c = can-sync c.args.floor.now c.args.server c.args.player.now c.requires.session

pub refuse-requires : goal.refuse-requires
refuse-requires g c =
    record { session = (c.args.server, (as-before c.args.floor.now c.args.server c.args.player.now c.requires.session c.sync.new.player c.in-NotBegun.ensures.synced).session) }

pub returns-in-NotBegun-clause-does : goal.returns-in-NotBegun-clause-does
returns-in-NotBegun-clause-does g c =
    let f = c.args.floor.now in
    let was = c.args.player.now in
    let before = as-before f c.args.server was c.requires.session c.sync.new.player c.in-NotBegun.ensures.synced in
    sync-refused f c.args.server was c.requires.session c.refuse.result c.refuse.new.player
    (refused-later c.refuse.result f c.args.server was c.sync.new.player c.refuse.new.player before (c.refuse.ensures.does c.args.server before.session))

pub returns-clause-does : goal.returns-clause-does
returns-clause-does g c =
    let f = c.args.floor.now in
    let was = c.args.player.now in
    let now = c.sync.new.player in
    elim c.match-sync.branch [
      | in-Ok w ↦ subst (λ (r : Synced). HasDone f (EndsSync r) c.args.server was now) (sym w.answer-is) (sync-fine f c.args.server was c.requires.session _ now w.in-Ok.ensures.synced)
      | in-Failed w ↦ subst (λ (r : Synced). HasDone f (EndsSync r) c.args.server was now) (sym w.answer-is) (sync-failed f c.args.server was c.requires.session _ now w.in-Failed.ensures.synced)
    ]

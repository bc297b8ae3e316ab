use Rattle.std.proofs.Common.{subst, sym}
use Rattle.actor_run.specs.{Doing.HasDone, Sessions.{DoesSync, EndsSync, IsSession, SessionValue, session_of}}
use Rattle.whole_steps.specs.seat_steps.specs.declared.floor.Floor.{Floor}
use Rattle.actor_run.proofs.session.Session.sync.Goals as goal

pub sync-requires : goal.sync-requires
sync-requires g c = record { session = subst (λ (f : Floor). IsSession f c.self.inside.server c.self.inside.player) (sym c.hall.view_is) c.self.invariant.session }

pub invariant_of-self : goal.invariant_of-self
invariant_of-self g c =
    let i = c.self.inside in
    let did = subst (λ (f : Floor). HasDone f (EndsSync c.sync.result) i.server i.player c.sync.new.player) c.hall.view_is c.sync.ensures.does in
    record { session = did.session; count = c.sync.ensures.seen }

pub returns : goal.returns
returns g c =
    let i = c.self.inside in
    let did = subst (λ (f : Floor). HasDone f (EndsSync c.sync.result) i.server i.player c.sync.new.player) c.hall.view_is c.sync.ensures.does in
    record { does = subst (λ (v : SessionValue). DoesSync c.sync.result v (session_of i.hall.now i.server c.sync.new.player)) c.self.view_is (record { goes = did.goes; ends = did.ends }) }

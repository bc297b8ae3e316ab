use Rattle.std.proofs.Common.{◌∙◌, ℕ, length, sym, ap, subst}
use Rattle.actor_run.specs.{Doing.Does, Everything.CostsFew, Sessions.{DoesTryQuery, TriesQuery, IsSession, SessionValue, session_of}}
use Rattle.whole_steps.specs.session_steps.proofs.Servers.{server-below}
use Rattle.whole_steps.specs.seat_steps.specs.declared.floor.Floor.{Floor}
use Rattle.actor_run.proofs.session.Session.try_query.Goals as goal

pub bell-requires : goal.bell-requires
bell-requires g c = server-below c.self.inside.hall.now c.self.inside.player c.self.invariant.session.stands.seated c.self.inside.server c.self.invariant.session.role

pub query-requires-clause-session : goal.query-requires-clause-session
query-requires-clause-session g c _ _ =
    subst (λ (f : Floor). (server : ℕ) × IsSession f server c.self.inside.player) (sym c.hall.view_is) (c.self.inside.server, c.self.invariant.session)

pub query-requires-clause-count : goal.query-requires-clause-count
query-requires-clause-count g c _ _ =
    c.requires.count ∙ ap (λ (v : SessionValue). length v.floor.hierarchy) (sym c.self.view_is) ∙ ap (λ (f : Floor). length f.hierarchy) (sym c.hall.view_is)

pub query-requires-clause-dims : goal.query-requires-clause-dims
query-requires-clause-dims g c _ _ = c.hall.invariant.0

pub invariant_of-self : goal.invariant_of-self
invariant_of-self g c =
    let i = c.self.inside in
    let does = subst (λ (f : Floor). Does f (TriesQuery c.query.result c.args.filter.now) i.player c.query.new.player) c.hall.view_is c.query.ensures.does in
    record { session = (does i.server c.self.invariant.session).session; count = c.query.ensures.seen }

pub returns : goal.returns
returns g c =
    let i = c.self.inside in
    let does = subst (λ (f : Floor). Does f (TriesQuery c.query.result c.args.filter.now) i.player c.query.new.player) c.hall.view_is c.query.ensures.does in
    let did = does i.server c.self.invariant.session in
    record {
      does = subst (λ (v : SessionValue). DoesTryQuery c.query.result c.args.filter.now v (session_of i.hall.now i.server c.query.new.player)) c.self.view_is (record { goes = did.goes; tries = did.ends });
      kept = c.query.ensures.kept;
      steps = subst (λ (f : Floor). CostsFew f c.args.filter.now c.query.new.player.seat.view.seen c.args.steps.now c.query.new.steps) c.hall.view_is c.query.ensures.steps;
    }

use Rattle.std.proofs.Common.{◌∙◌, ℕ, ℤ, length, sym, ap, subst, rules}
use Rattle.actor_run.specs.{Doing.Does, Sessions.{DoesTryInsert, TriesInsert, IsSession, SessionValue, session_of}}
use Rattle.actor_run.proofs.Measured.{measured}
use Rattle.whole_steps.specs.session_steps.proofs.Servers.{server-below}
use Rattle.whole_steps.specs.seat_steps.specs.declared.floor.Floor.{Floor}
use Rattle.actor_run.proofs.session.Session.try_insert.Goals as goal

pub bell-requires : goal.bell-requires
bell-requires g c = server-below c.self.inside.hall.now c.self.inside.player c.self.invariant.session.stands.seated c.self.inside.server c.self.invariant.session.role

pub insert-requires-clause-session : goal.insert-requires-clause-session
insert-requires-clause-session g c _ _ =
    subst (λ (f : Floor). (server : ℕ) × IsSession f server c.self.inside.player) (sym c.hall.view_is) (c.self.inside.server, c.self.invariant.session)

pub insert-requires-clause-names : goal.insert-requires-clause-names
insert-requires-clause-names g c _ _ =
    c.requires.names ∙ ap (λ (v : SessionValue). length v.floor.hierarchy) (sym c.self.view_is) ∙ ap (λ (f : Floor). length f.hierarchy) (sym c.hall.view_is)

pub invariant_of-self : goal.invariant_of-self
invariant_of-self g c =
    let i = c.self.inside in
    let here = measured (λ (m : ℤ). Does c.hall.inside.floor (TriesInsert c.insert.result c.args.names.now m) i.player c.insert.new.player) c.args.measures (search rules) c.insert.ensures.does in
    let does = subst (λ (f : Floor). Does f (TriesInsert c.insert.result c.args.names.now c.args.measures) i.player c.insert.new.player) c.hall.view_is here in
    record { session = (does i.server c.self.invariant.session).session; count = c.insert.ensures.seen }

pub returns : goal.returns
returns g c =
    let i = c.self.inside in
    let here = measured (λ (m : ℤ). Does c.hall.inside.floor (TriesInsert c.insert.result c.args.names.now m) i.player c.insert.new.player) c.args.measures (search rules) c.insert.ensures.does in
    let does = subst (λ (f : Floor). Does f (TriesInsert c.insert.result c.args.names.now c.args.measures) i.player c.insert.new.player) c.hall.view_is here in
    let did = does i.server c.self.invariant.session in
    record {
      does = subst (λ (v : SessionValue). DoesTryInsert c.insert.result c.args.names.now c.args.measures v (session_of i.hall.now i.server c.insert.new.player)) c.self.view_is (record { goes = did.goes; tries = did.ends });
    }

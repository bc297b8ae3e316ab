use Rattle.std.proofs.Common.{◌∙◌, ℕ, length, sym, ap, subst}
use Rattle.actor_run.specs.{Cursors.IsCursor, Doing.Does, Sessions.{DoesQuery, EndsQuery, IsSession, SessionValue, session_of}}
use Rattle.actor_run.proofs.CursorOpen.{cursor-kept-for}
use Rattle.whole_steps.specs.session_steps.proofs.Servers.{server-below}
use Rattle.whole_steps.specs.seat_steps.specs.declared.floor.{Floor.Floor, Player.Player}
use Rattle.actor_run.proofs.session.Session.cursor.Goals as goal

pub bell-bell-requires : goal.bell-bell-requires
bell-bell-requires g c = (let i = c.self.inside in let s = c.self.invariant.session in server-below i.hall.now i.player s.stands.seated i.server s.role)

pub begin-requires-clause-session : goal.begin-requires-clause-session
begin-requires-clause-session g c =
    subst (λ (f : Floor). (server : ℕ) × IsSession f server c.self.inside.player) (sym c.hall.view_is) (c.self.inside.server, c.self.invariant.session)

pub begin-requires-clause-count : goal.begin-requires-clause-count
begin-requires-clause-count g c =
    c.requires.count ∙ ap (λ (v : SessionValue). length v.floor.hierarchy) (sym c.self.view_is) ∙ ap (λ (f : Floor). length f.hierarchy) (sym c.hall.view_is)

pub begin-requires-clause-dims : goal.begin-requires-clause-dims
begin-requires-clause-dims g c = c.hall.invariant.0

pub invariant_of-session : goal.invariant_of-session
invariant_of-session g c =
    let i = c.self.inside in
    let does = subst (λ (f : Floor). Does f (EndsQuery c.in-Err.answer c.args.filter.now) i.player c.begin.new.player) c.hall.view_is c.in-Err.ensures.refused in
    record { session = (does i.server c.self.invariant.session).session; count = c.in-Err.ensures.seen }

pub invariant_of-result : goal.invariant_of-result
invariant_of-result g c =
    let i = c.self.inside in
    let begun = c.in-Ok.ensures.begun in
    let made : IsCursor c.hall.inside.floor i.server i.player c.in-Ok.of c.in-Ok.filter.value c.begin.new.player = record {
      session = subst (λ (f : Floor). IsSession f i.server i.player) (sym c.hall.view_is) c.self.invariant.session;
      valid = begun.named.valid;
      start = begun.start;
      asked = begun.asked;
      since = begun.since;
    } in
    subst (λ (x : Floor × Player). IsCursor x.0 i.server x.1 c.in-Ok.of c.in-Ok.filter.value c.begin.new.player) (λ k. (c.hall.view_is k, sym c.of-was.ensures k)) made

pub returns-in-Ok-clause-asked : goal.returns-in-Ok-clause-asked
returns-in-Ok-clause-asked g c =
    let i = c.self.inside in
    let session = subst (λ (f : Floor). IsSession f i.server i.player) (sym c.hall.view_is) c.self.invariant.session in
    cursor-kept-for c.hall.inside.floor i.server i.player session c.args.filter.now c.in-Ok.of c.in-Ok.filter.value c.begin.new.player c.in-Ok.ensures.begun
    i.hall.now c.hall.view_is c.of-was.result.value c.of-was.ensures c.args.self c.self.view_is

pub returns-in-Err-clause-refused : goal.returns-in-Err-clause-refused
returns-in-Err-clause-refused g c =
    let i = c.self.inside in
    let now = c.begin.new.player in
    let does = subst (λ (f : Floor). Does f (EndsQuery c.in-Err.answer c.args.filter.now) i.player now) c.hall.view_is c.in-Err.ensures.refused in
    let did = does i.server c.self.invariant.session in
    subst (λ (v : SessionValue). DoesQuery c.in-Err.answer c.args.filter.now v (session_of i.hall.now i.server now)) c.self.view_is (record { goes = did.goes; ends = did.ends })

use Rattle.std.proofs.Common.{sym, subst}
use Rattle.actor_run.specs.{Passes.{IsPassOf, pass_of}, Sessions.{BecomesPass, IsSession, SessionValue, session_of}}
use Rattle.actor_run.proofs.PassAndSession.{session-made, session-own, session-pass, still-counted, still-nothing}
use Rattle.whole_steps.specs.seat_steps.specs.Floors.{Stands}
use Rattle.whole_steps.specs.seat_steps.specs.declared.floor.Floor.{Floor}
use Rattle.actor_run.proofs.session.Session.end.Goals as goal

pub empty_purse-requires-clause-stands : goal.empty_purse-requires-clause-stands
empty_purse-requires-clause-stands g c = subst (λ (f : Floor). Stands f c.self.inside.player) (sym c.hall.view_is) c.self.invariant.session.stands

pub empty_purse-requires-clause-free : goal.empty_purse-requires-clause-free
empty_purse-requires-clause-free g c = c.self.invariant.session.free

pub leave-requires-clause-nothing : goal.leave-requires-clause-nothing
leave-requires-clause-nothing g c =
    let i = c.self.inside in
    let session = subst (λ (f : Floor). IsSession f i.server i.player) (sym c.hall.view_is) c.self.invariant.session in
    still-nothing c.hall.inside.floor i.server i.player session c.empty_purse.new.player c.empty_purse.ensures.emptied

pub leave-requires-clause-there : goal.leave-requires-clause-there
leave-requires-clause-there g c =
    let i = c.self.inside in
    let session = subst (λ (f : Floor). IsSession f i.server i.player) (sym c.hall.view_is) c.self.invariant.session in
    still-counted c.hall.inside.floor i.server i.player session c.empty_purse.new.player c.empty_purse.ensures.emptied

pub invariant_of-result : goal.invariant_of-result
invariant_of-result g c =
    let i = c.self.inside in
    let session = subst (λ (f : Floor). IsSession f i.server i.player) (sym c.hall.view_is) c.self.invariant.session in
    session-pass c.hall.inside.floor i.server i.player session c.empty_purse.new.player c.empty_purse.ensures.emptied c.leave.new.player c.leave.ensures.left

pub returns : goal.returns
returns g c =
    let i = c.self.inside in
    let session = subst (λ (f : Floor). IsSession f i.server i.player) (sym c.hall.view_is) c.self.invariant.session in
    let mid = c.empty_purse.new.player in
    let now = c.leave.new.player in
    let own = session-own c.hall.inside.floor i.server i.player session mid c.empty_purse.ensures.emptied now c.leave.ensures.left in
    let made = session-made c.hall.inside.floor i.server i.player session mid c.empty_purse.ensures.emptied now c.leave.ensures.left in
    record {
      of = subst (λ (s : SessionValue). IsPassOf s.floor (pass_of now)) c.self.view_is (subst (λ (f : Floor). IsPassOf f (pass_of now)) c.hall.view_is own);
      made = subst (λ (s : SessionValue). BecomesPass s (pass_of now)) c.self.view_is (subst (λ (f : Floor). BecomesPass (session_of f i.server i.player) (pass_of now)) c.hall.view_is made);
    }

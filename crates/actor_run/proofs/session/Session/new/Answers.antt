use Rattle.std.proofs.Common.{sym, subst}
use Rattle.actor_run.specs.{Passes.{IsPassOf, PassValue}, Sessions.{IsPassFor, IsSession, IsSessionRole, session_of}}
use Rattle.actor_run.proofs.PassAndSession.{come-free, come-heard, pass-for, pass-nothing, pass-session, pass-stands}
use Rattle.whole_steps.specs.seat_steps.specs.declared.floor.Floor.{Floor}
use Rattle.actor_run.proofs.session.Session.new.Goals as goal

pub come-requires-clause-stands : goal.come-requires-clause-stands
come-requires-clause-stands g c =
    let p = c.pass.inside.player in
    let of = subst (λ (x : Floor × PassValue). IsPassOf x.0 x.1) (λ i. (sym c.hall.view_is i, sym c.pass.view_is i)) c.requires.of in
    pass-stands c.hall.inside.floor p c.pass.invariant of

pub come-requires-clause-nothing : goal.come-requires-clause-nothing
come-requires-clause-nothing g c =
    let p = c.pass.inside.player in
    pass-nothing c.hall.inside.floor p c.pass.invariant (subst (λ (x : PassValue). IsSessionRole x.role) (sym c.pass.view_is) c.requires.role)

pub hear-seen-requires-clause-stands : goal.hear-seen-requires-clause-stands
hear-seen-requires-clause-stands g c = c.come.ensures.come.stands

pub hear-seen-requires-clause-free : goal.hear-seen-requires-clause-free
hear-seen-requires-clause-free g c =
    let p = c.pass.inside.player in
    come-free c.hall.inside.floor p c.pass.invariant c.come.new.player c.come.ensures.come

pub invariant_of-result : goal.invariant_of-result
invariant_of-result g c =
    let p = c.pass.inside.player in
    let heard = come-heard c.hall.inside.floor p c.pass.invariant c.come.new.player c.come.ensures.come c.hear-seen.new.player c.hear-seen.ensures.same in
    let session = pass-session c.hall.inside.floor p c.pass.invariant c.hear-seen.new.player c.in-Session.server c.in-Session.is heard in
    record { session = subst (λ (f : Floor). IsSession f c.in-Session.server c.hear-seen.new.player) c.hall.view_is session; count = c.hear-seen.ensures.count }

pub returns : goal.returns
returns g c =
    let p = c.pass.inside.player in
    let heard = come-heard c.hall.inside.floor p c.pass.invariant c.come.new.player c.come.ensures.come c.hear-seen.new.player c.hear-seen.ensures.same in
    record {
      made = subst (λ (x : Floor × PassValue). IsPassFor x.0 x.1 (session_of x.0 c.in-Session.server c.hear-seen.new.player)) (λ i. (c.hall.view_is i, c.pass.view_is i))
          (pass-for c.hall.inside.floor p c.pass.invariant c.hear-seen.new.player c.in-Session.server c.in-Session.is heard);
    }

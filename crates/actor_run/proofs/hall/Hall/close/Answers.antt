use Rattle.std.proofs.Common.{◌∙◌, List, Option, sym, ap, subst}
use Rattle.actor_run.specs.{Halls.HasClosed, Passes.{IsPassesOf, PassesValue, passes_of}}
use Rattle.actor_run.proofs.Gathered.{here-are, here-view}
use Rattle.actor_run.proofs.Closing.{are-actors, has-all, has-closed}
use Rattle.whole_steps.specs.seat_steps.specs.declared.floor.Floor.{Floor}
use Rattle.whole_steps.specs.volap_cell.specs.declared.actor.Actor.{Actor}
use Rattle.whole_steps.specs.volap_turns.specs.Wholes.{AreActorsOf}
use Rattle.actor_run.proofs.hall.Hall.close.Goals as goal

pub close-requires-clause-all : goal.close-requires-clause-all
close-requires-clause-all c = has-all (here-are c.in-Some.is c.passes.inside.own c.passes.inside.actors.items c.passes.invariant.0) (ap (λ (p : PassesValue). p.out) c.passes.view_is ∙ c.requires.all)

pub close-requires-clause-actors : goal.close-requires-clause-actors
close-requires-clause-actors c =
    let about = ap (λ (p : PassesValue). p.setting.hierarchy) c.passes.view_is ∙ c.requires.own.hierarchy ∙ ap (λ (f : Floor). f.hierarchy) (sym c.self.view_is) in
    subst (λ (l : List (Option Actor)). AreActorsOf c.self.inside.floor.hierarchy c.in-Some.seat.view l) (sym c.push_reserved.ensures.items)
    (are-actors (here-are c.in-Some.is c.passes.inside.own c.passes.inside.actors.items c.passes.invariant.0) (ap (λ (p : PassesValue). p.out) c.passes.view_is ∙ c.requires.all) c.self.inside.floor.hierarchy about)

pub returns : goal.returns
returns c =
    let f = c.self.inside.floor in
    let in_all = ap (λ (p : PassesValue). p.out) c.passes.view_is ∙ c.requires.all in
    let own : IsPassesOf f (passes_of c.in-Some.seat c.passes.inside.own c.passes.inside.actors.items) = subst (λ (x : Floor × PassesValue). IsPassesOf x.0 x.1) (λ i. (sym c.self.view_is i, sym (here-view c.in-Some.is c.passes.inside.own c.passes.inside.actors.items c.passes.view_is) i)) c.requires.own in
    let here = ap (λ v. v.items) c.close.ensures.actors ∙ c.push_reserved.ensures.items in
    record {
      closed = subst (λ (x : Floor × PassesValue). HasClosed x.0 x.1 c.close.result) (λ i. (c.self.view_is i, here-view c.in-Some.is c.passes.inside.own c.passes.inside.actors.items c.passes.view_is i))
          (has-closed (here-are c.in-Some.is c.passes.inside.own c.passes.inside.actors.items c.passes.invariant.0) in_all f c.close.result own here c.close.ensures.whole c.close.ensures.history);
    }

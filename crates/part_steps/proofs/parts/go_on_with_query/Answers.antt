use Rattle.std.proofs.Common.{◌∙◌, ℕ, List, [], ◌∷◌, ◌++◌, Option, Some, refl, sym, ap, subst, arith}
use Rattle.seat_steps.specs.core_steps.specs.declared.trees.TreeStep.TheVariants.{VisitBlock}
use Rattle.part_steps.specs.Parts.{IsVisiting}
use Rattle.part_steps.proofs.{PartsMade.{tree-first, went-taken}, PartsSure.{end-bare, visit-ends, visit-sure}, QueryCosts.none-noted}
use Rattle.part_steps.proofs.parts.go_on_with_query.Goals as goal
use Rattle.seat_steps.specs.volap_cell.specs.{Values.actor_of, declared.actor.Actor.Actor}

pub end_part-requires-clause-ends : goal.end_part-requires-clause-ends
end_part-requires-clause-ends g c = visit-ends c.args.noted c.requires.reading

pub take-requires-clause-cell : goal.take-requires-clause-cell
take-requires-clause-cell g c =
    let f = c.args.floor.now in
    let p = c.args.player.now in
    let visits = subst (IsVisiting (actor_of p.actor)) c.in-Some.is c.requires.reading in
    (tree-first f p c.requires.stands.seated (VisitBlock c.in-Some.block) (visit-sure f p c.in-Some.block visits) c.in-Some.block 3 [] (c.requires.stands.bare ∙ end-bare (visit-ends c.args.noted c.requires.reading)) refl).within

pub take-requires-clause-other : goal.take-requires-clause-other
take-requires-clause-other g c =
    let f = c.args.floor.now in
    let p = c.args.player.now in
    let visits = subst (IsVisiting (actor_of p.actor)) c.in-Some.is c.requires.reading in
    (tree-first f p c.requires.stands.seated (VisitBlock c.in-Some.block) (visit-sure f p c.in-Some.block visits) c.in-Some.block 3 [] (c.requires.stands.bare ∙ end-bare (visit-ends c.args.noted c.requires.reading)) refl).other

pub take-requires-clause-rank : goal.take-requires-clause-rank
take-requires-clause-rank g c =
    let f = c.args.floor.now in
    let p = c.args.player.now in
    let visits = subst (IsVisiting (actor_of p.actor)) c.in-Some.is c.requires.reading in
    (tree-first f p c.requires.stands.seated (VisitBlock c.in-Some.block) (visit-sure f p c.in-Some.block visits) c.in-Some.block 3 [] (c.requires.stands.bare ∙ end-bare (visit-ends c.args.noted c.requires.reading)) refl).order

pub take-requires-clause-room : goal.take-requires-clause-room
take-requires-clause-room g c =
    let f = c.args.floor.now in
    let p = c.args.player.now in
    let visits = subst (IsVisiting (actor_of p.actor)) c.in-Some.is c.requires.reading in
    (tree-first f p c.requires.stands.seated (VisitBlock c.in-Some.block) (visit-sure f p c.in-Some.block visits) c.in-Some.block 3 [] (c.requires.stands.bare ∙ end-bare (visit-ends c.args.noted c.requires.reading)) refl).room

pub visit-requires-clause-held : goal.visit-requires-clause-held
visit-requires-clause-held g c =
    c.take.ensures.took.ranks ∙ ap (λ (l : List (ℕ × Option ℕ)). l ++ (c.in-Some.block, Some 3) ∷ []) (c.requires.stands.bare ∙ end-bare (visit-ends c.args.noted c.requires.reading))

pub visit-requires-clause-reading : goal.visit-requires-clause-reading
visit-requires-clause-reading g c =
    subst (λ (x : Actor × Option ℕ). IsVisiting (actor_of x.0) x.1) (λ j. (sym c.take.ensures.took.same.actor j, c.in-Some.is j)) c.requires.reading

pub returns-in_default : goal.returns-in_default
returns-in_default g c = record {
  went = c.end_part.ensures.went;
  kept = c.add.ensures.kept;
  none = λ r.
      let zero = c.end_cost.ensures.alone r in
      let few = c.add.ensures.few in
      let kept = c.add.ensures.kept in
      omega (arith, zero, few, kept);
}

pub returns : goal.returns
returns g c = record {
  went = went-taken c.args.floor.now c.args.player.now c.take.new.player c.visit.new.player c.take.ensures.took.same c.visit.ensures.went;
  kept = (let one = c.add-2.ensures.kept in let more = c.visit.ensures.kept in omega (arith, one, more));
  none = λ r. none-noted (actor_of c.args.player.now.actor) c.args.noted c.in-Some.block c.requires.reading c.in-Some.is r;
}

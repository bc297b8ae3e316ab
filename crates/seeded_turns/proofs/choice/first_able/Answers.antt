use Rattle.std.proofs.Common.{rules, ◌≡◌, length, Some, slice_get, subst, ap, true, ◌<◌, ℕ, List}
use Rattle.seeded_turns.specs.Drawn.{able}
use Rattle.seeded_turns.proofs.Able.{able_place}
use Rattle.seeded_turns.proofs.choice.first_able.Goals as goal

pub returns-in-Some-clause-some : goal.returns-in-Some-clause-some
returns-in-Some-clause-some g c =
    let can = g.M.Machine.can c.args.machine.now in
    let n = g.M.Machine.actors c.args.machine.now in
    let i = c.loop-actor.actor in
    let below : i < n = search rules in
    let here : can i ≡ true = search rules in
    (subst (λ (k : ℕ). slice_get (able can n) k ≡ Some i) (ap (λ (xs : List ℕ). length xs) c.loop-actor.invariant) (able_place can n i below here), below, c.in-Some.ensures.due)

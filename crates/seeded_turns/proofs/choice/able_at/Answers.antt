use Rattle.std.proofs.Common.{◌≡◌, length, Some, true, slice_get, subst, arith, rules}
use Rattle.seeded_turns.specs.Drawn.{able}
use Rattle.seeded_turns.proofs.Able.{able_place}
use Rattle.seeded_turns.proofs.choice.able_at.Goals as goal

pub returns-then-left-eq0-clause-due : goal.returns-then-left-eq0-clause-due
returns-then-left-eq0-clause-due g c =
    let can = g.M.Machine.can c.args.machine.now in
    let i = c.loop-actor.actor in
    let here : length (able can i) ≡ c.args.place = omega arith in
    let able_so : can i ≡ true = search rules in (
      subst (λ k. slice_get (able can (g.M.Machine.actors c.args.machine.now)) k ≡ Some i) here
          (able_place can (g.M.Machine.actors c.args.machine.now) i (omega arith) able_so),
      omega arith,
      c.in-Some.ensures.due,
    )

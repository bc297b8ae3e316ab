use Rattle.std.proofs.Common.{ℕ, Option, refl, sym, subst}
use Rattle.seat_steps.specs.core_steps.specs.Places.{number_at}
use Rattle.part_steps.specs.Heads.{CanTake, TakesAll}
use Rattle.part_steps.proofs.BlocksTaken.{takes-none, takes-one}
use Rattle.part_steps.proofs.heads.take_if.Goals as goal

pub take-requires-clause-cell : goal.take-requires-clause-cell
take-requires-clause-cell g c = (subst (λ (o : Option ℕ). CanTake c.args.floor.now c.args.player.now (number_at o)) c.in-Some.is c.requires.can).within.0

pub take-requires-clause-other : goal.take-requires-clause-other
take-requires-clause-other g c = (subst (λ (o : Option ℕ). CanTake c.args.floor.now c.args.player.now (number_at o)) c.in-Some.is c.requires.can).other.0

pub take-requires-clause-rank : goal.take-requires-clause-rank
take-requires-clause-rank g c = λ k r e. (c.requires.ranks k r e, λ same ne. absurd (ne refl))

pub returns-in-Some-clause-took : goal.returns-in-Some-clause-took
returns-in-Some-clause-took g c = subst (λ (o : Option ℕ). TakesAll (number_at o) c.args.player.now c.take.new.player) (sym c.in-Some.is) (takes-one c.in-Some.block c.args.player.now c.take.new.player c.take.ensures.took)

pub returns-in_default-clause-took : goal.returns-in_default-clause-took
returns-in_default-clause-took g c = subst (λ (o : Option ℕ). TakesAll (number_at o) c.args.player.now c.args.player.now) (sym c.in_default.is) (takes-none c.args.player.now)

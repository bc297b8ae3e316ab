use Rattle.std.proofs.Common.{◌∙◌, refl, sym}
use Rattle.whole_steps.proofs.Turned.{known-of, knows-on, lent-known, looking-on}
use Rattle.whole_steps.proofs.looks.LooksCells.look.Goals as goal

pub turn_to-requires-clause-knows : goal.turn_to-requires-clause-knows
turn_to-requires-clause-knows g c = knows-on c.self.invariant.turned c.args.cell (known-of g.B.Start.seat c.args.cell c.requires.stands)

pub invariant_of-self : goal.invariant_of-self
invariant_of-self g c = looking-on g.B.Start.seat c.self.inside.table.now c.self.inside.seat c.turn_to.new.seat c.see.follows.lender-at-none c.self.invariant c.turn_to.ensures.everyone c.turn_to.ensures.turned c.see.follows.holds-at-none

pub returns : goal.returns
returns g c = (
  (refl, (λ l. tt), refl),
  record {
    value = lent-known g.B.Start.seat c.self.inside.seat c.args.cell c.see.result.now c.self.invariant.turned (known-of g.B.Start.seat c.args.cell c.requires.stands) (sym c.turn_to.ensures.value ∙ c.see.ensures.value);
    same = tt;
  },
)

use Rattle.std.proofs.Common.{◌∙◌, ◌<◌, ℕ, Some, ap, subst, sym}
use Rattle.seeded_turns.proofs.Able.{able_below, some_so}
use Rattle.seeded_turns.proofs.choice.find_able.Goals as goal

pub with_due-requires-clause-within : goal.with_due-requires-clause-within
with_due-requires-clause-within g c =
    (able_below (g.M.Machine.can c.args.machine.now) (g.M.Machine.actors c.args.machine.now) c.args.place _ (c.requires.listed c.args.place c.requires.within c.if-at-lt-LISTED.true)).0

pub returns-then-at-lt-LISTED-clause-some : goal.returns-then-at-lt-LISTED-clause-some
returns-then-at-lt-LISTED-clause-some g c =
    c.with_due.ensures.some
    ∙ (able_below (g.M.Machine.can c.args.machine.now) (g.M.Machine.actors c.args.machine.now) c.args.place _ (c.requires.listed c.args.place c.requires.within c.if-at-lt-LISTED.true)).1

pub returns-then-at-lt-LISTED-clause-due : goal.returns-then-at-lt-LISTED-clause-due
returns-then-at-lt-LISTED-clause-due g c =
    let at = c.requires.listed c.args.place c.requires.within c.if-at-lt-LISTED.true in
    let many = g.M.Machine.actors c.args.machine.now in
    let found = able_below (g.M.Machine.can c.args.machine.now) many c.args.place _ at in
    some_so c.with_due.result _ _ (λ x due. (at ∙ ap Some (sym due.0), subst (λ (i : ℕ). i < many) (sym due.0) found.0, due.1)) c.with_due.ensures.due

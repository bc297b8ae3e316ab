use Rattle.std.proofs.Common.{refl, sym}
use Rattle.describing_set.proofs.{Membership.with_id-member, Sorted.In-from_Contains}
use Rattle.describing_set.proofs.few.FewConcepts.add.Goals as goal

pub returns-then-has-clause-added : goal.returns-then-has-clause-added
returns-then-has-clause-added c =
    let xs = c.args.self.now.items in
    sym (with_id-member c.args.id xs c.requires.ascends (In-from_Contains xs c.args.id (c.if-has.ensures.meaning.0 refl)))

use Rattle.std.proofs.Common.{◌∙◌, refl, subst, sym}
use Rattle.std.specs.Prelude.{IsSome}
use Rattle.core_due.proofs.LastItems.{ends-in-two, first-before, second-last}
use Rattle.core_due.proofs.splits.split_of.Goals as goal

pub unwrap-requires : goal.unwrap-requires
unwrap-requires c = subst IsSome (sym (c.last_two-last.ensures.last ∙ second-last c.args.purse.now.spares (ends-in-two c.args.purse.now.spares c.requires.two))) refl

pub unwrap-requires-2 : goal.unwrap-requires-2
unwrap-requires-2 c = subst IsSome (sym (c.last_two-last.ensures.before ∙ first-before c.args.purse.now.spares (ends-in-two c.args.purse.now.spares c.requires.two))) refl

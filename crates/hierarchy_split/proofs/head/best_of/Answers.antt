use Rattle.std.proofs.Common.{◌∙◌}
use Rattle.hierarchy_split.proofs.Groups.{best_of_level}
use Rattle.hierarchy_split.proofs.head.best_of.Goals as goal

pub returns : goal.returns
returns c = best_of_level c.args.h.now c.args.head.now c.args.dim c.in_ok-level.level c.args.cuts.now c.as_slice.result.now c.as_slice-2.result.now c.best_at.result c.in_ok-level.was (c.as_slice.ensures.value ∙ c.leasts-leasts.ensures) c.as_slice-2.ensures.value c.best_at.ensures

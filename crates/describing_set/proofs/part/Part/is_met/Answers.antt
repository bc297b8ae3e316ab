use Rattle.std.proofs.Common.{◌∙◌, ap}
use Rattle.std.specs.List.{list_any}
use Rattle.dim_hierarchy.specs.{Compiled.is_related, Dimension.tree, Filter.pick_at}
use Rattle.describing_set.proofs.Filters.{related_met}
use Rattle.describing_set.proofs.part.Part.is_met.Goals as goal

pub returns : goal.returns
returns c =
    let t = tree c.args.wanted.now.hierarchy c.args.dim in
    let p = pick_at c.args.wanted.now.picks c.args.dim in
    c.meets_any.ensures ∙ ap (list_any (is_related t p)) c.as_slice.ensures.value ∙ related_met t p c.args.self.now
